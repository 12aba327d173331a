use Rattle.std.proofs.Common.{◌≡◌, ◌+◌, ◌*◌, ◌≤◌, length}
use Rattle.formula_kinds.specs.Below.{with_clauses}
use Rattle.formula_kinds.specs.Hole.{hole_clauses}
use Rattle.formula_kinds.proofs.hole.push_hole.Given as goal

-- the pairs of the pigeons so far were added
abbrev pub invariant-loop-first : goal.invariant-loop-first
invariant-loop-first l = record {
  value : l.formula ≡ with_clauses l.initial.formula (hole_clauses l.n l.hole l.first);
  room : length l.formula.clauses ≤ length l.initial.formula.clauses + 100 * l.first;
}
