-- What writing some text to the log does to what the outputs tell.
use Rattle.std.specs.Prelude.{◌≡◌, ℕ, List, ◌++◌, Result, Ok, Err, OnOk}
use Rattle.desk_io.specs.declared.Port.TheVariants.{Log}
use Rattle.desk_io.specs.declared.PortFault.{PortFault}
use Rattle.desk_io.specs.declared.PortFault.TheVariants.{Failed, NoMemory}
use Rattle.desk_io.specs.Told.{OutputsTold, Rose}
use Rattle.desk_io.specs.Outputs.{WritesWhole, OnFailed}
use Rattle.log_merge.specs.declared.stop.Stop.{Stop}
use Rattle.log_merge.specs.declared.stop.Stop.TheVariants.{NoMemory as WantOfMemory, WriteFault}

-- how the writing of a part ended, as a call on the log's port has it
abbrev pub on_port : Result (Unit {0}) Stop → Result (Unit {0}) PortFault
on_port (Ok done) = Ok done
on_port (Err WriteFault) = Err Failed
on_port (Err WantOfMemory) = Err NoMemory

-- `write_part` of a text writes it to the log as `write_whole` does
abbrev pub WritesPart : List ℕ → OutputsTold → OutputsTold → Result (Unit {0}) Stop → Type 0
WritesPart text before after result = WritesWhole Log text before after (on_port result)

-- a buffer that held `held` takes the text: of both, a front is written as `write_whole` does, and the rest is kept
pub record Gathers (text held kept : List ℕ) (before after : OutputsTold) (result : Result (Unit {0}) PortFault) : Type 0 where
  pub done : List ℕ
  pub rest : List ℕ
  pub parts : done ++ rest ≡ held ++ text
  pub keeps : OnOk result (kept ≡ rest)
  pub wrote : WritesWhole Log done before after (Ok tt)
  pub failed : OnFailed result (Rose (before.at Log).faults (after.at Log).faults)
