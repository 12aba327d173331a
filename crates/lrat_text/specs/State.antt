-- A reader, as contracts see it.
use Rattle.std.specs.Prelude.{◌≡◌, ℕ, ◌+◌, ◌≤◌, false, Option}
use Rattle.lrat_text.specs.declared.fault.LineFault.{LineFault}
use Rattle.lrat_text.specs.declared.scan.Scan.{Scan}
use Rattle.lrat_text.specs.Machine.{is_ready}

-- where it stands in the text, how many bytes it has taken, and the fault that it answers from now on, where it has met one
pub record ReaderState : Type 0 where
  pub scan : Scan
  pub read : ℕ
  pub fault : Option LineFault

-- no more bytes than may be were taken, there are no more lines than bytes, and no line waits to be handed out
pub record IsSound (scan : Scan) (read : ℕ) : Type 0 where
  pub few : read ≤ 1099511627776
  pub lines : scan.line ≤ read + 1
  pub idle : is_ready scan.place ≡ false
