use Rattle.std.proofs.Common.{◌≡◌, ◌+◌, drop, map}
use Rattle.lit_base.specs.Walk.{walk}
use Rattle.lrat_check.specs.Clauses.{lits_at}
use Rattle.lrat_check.proofs.walk.walk.Given as goal

-- the walk over the hints that are left decides
abbrev pub invariant-loop-index : goal.invariant-loop-index
invariant-loop-index l = walk 1 l.fn.known (map (lits_at l.clauses) l.hints) ≡ walk (l.index + 1) l.known (map (lits_at l.clauses) (drop l.index l.hints))
