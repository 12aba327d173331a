use Rattle.std.proofs.Common.{length}
use Rattle.desk_io.proofs.Written.{HasWritten}
use Rattle.desk_io.proofs.outputs.write_whole.Given as goal

abbrev pub invariant-loop-rest : goal.invariant-loop-rest
invariant-loop-rest g l = HasWritten l.port l.fn.text l.rest (g.O.Outputs.told l.initial.outputs) (g.O.Outputs.told l.outputs)

abbrev pub decreases-loop-rest : goal.decreases-loop-rest
decreases-loop-rest g l = length l.rest
