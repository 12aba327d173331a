use Rattle.std.proofs.Common.{◌≡◌, ◌+◌, ◌*◌, ◌≤◌, length}
use Rattle.formula_kinds.specs.Below.{below, with_clauses}
use Rattle.formula_kinds.specs.Hole.{hole_clauses}
use Rattle.formula_kinds.proofs.hole.push_holes.Given as goal

-- the clauses of the holes so far were added
abbrev pub invariant-loop-hole : goal.invariant-loop-hole
invariant-loop-hole l = record {
  value : l.formula ≡ with_clauses l.initial.formula (below (λ h. hole_clauses l.n h (l.n + 1)) l.hole);
  room : length l.formula.clauses ≤ 101 + 10100 * l.hole;
}
