use Rattle.std.proofs.Common.{◌≡◌, take}
use Rattle.lit_base.specs.Distinct.{distinct}
use Rattle.lit_base.proofs.clause.distinct_by_search.Given as goal

-- those kept are the distinct ones of the literals so far
abbrev pub invariant-loop-lit : goal.invariant-loop-lit
invariant-loop-lit l = l.kept.items ≡ distinct (take l.lit-index l.lits)
