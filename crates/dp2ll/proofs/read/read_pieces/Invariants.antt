use Rattle.dp2ll.specs.Reading.{IsReading}
use Rattle.dp2ll.proofs.read.read_pieces.Given as goal

abbrev pub invariant-loop : goal.invariant-loop
invariant-loop g l = IsReading (g.I.Inputs.told l.initial.inputs) (g.I.Inputs.told l.inputs) l.reader l.counter
