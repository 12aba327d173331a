use Rattle.round_prop.specs.Propagation.{MayPropagate}
use Rattle.round_prop.proofs.tests.hold_all.Given as goal

-- the clauses so far are held and attached
abbrev pub invariant-loop-index : goal.invariant-loop-index
invariant-loop-index g l = MayPropagate l.rounds l.pool l.trail
