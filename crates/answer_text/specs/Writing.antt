-- What writing an answer does to what the outputs tell.
use Rattle.std.specs.Prelude.{ℕ, List, Result}
use Rattle.desk_io.specs.declared.Port.TheVariants.{Answer}
use Rattle.desk_io.specs.Told.{OutputsTold}
use Rattle.desk_io.specs.Outputs.{WritesWhole}
use Rattle.log_merge.specs.declared.stop.Stop.{Stop}
use Rattle.log_merge.specs.Writing.{on_port}

-- a text is written to the answer port as `write_whole` does it
abbrev pub WritesAnswer : List ℕ → OutputsTold → OutputsTold → Result (Unit {0}) Stop → Type 0
WritesAnswer text before after result = WritesWhole Answer text before after (on_port result)
