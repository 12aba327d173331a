use Rattle.std.proofs.Common.{take, map}
use Rattle.lit_base.specs.Literal.{negation}
use Rattle.lrat_check.proofs.Walks.{AreSame}
use Rattle.lrat_check.proofs.walk.make_false.Given as goal

-- the negations of the literals so far are held true
abbrev pub invariant-loop-lit : goal.invariant-loop-lit
invariant-loop-lit l = AreSame l.known (map negation (take l.lit-index l.lits))
