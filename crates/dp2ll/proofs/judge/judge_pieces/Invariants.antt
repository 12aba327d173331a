use Rattle.dp2ll.specs.Judging.{HasGoneOn}
use Rattle.dp2ll.proofs.judge.judge_pieces.Given as goal

-- the pieces so far are judged
abbrev pub invariant-loop : goal.invariant-loop
invariant-loop g l =
    HasGoneOn (g.I.Inputs.told l.initial.inputs) (g.I.Inputs.told l.inputs) l.initial.reader l.initial.checker l.reader l.checker l.counter
