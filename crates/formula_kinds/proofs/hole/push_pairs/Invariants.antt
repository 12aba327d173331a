use Rattle.std.proofs.Common.{◌≡◌, ◌+◌, ◌≤◌, length}
use Rattle.formula_kinds.specs.Below.{with_clauses}
use Rattle.formula_kinds.specs.Hole.{pair_clauses}
use Rattle.formula_kinds.proofs.hole.push_pairs.Given as goal

-- the pairs of the pigeons so far were added
abbrev pub invariant-loop-after : goal.invariant-loop-after
invariant-loop-after l = record {
  value : l.formula ≡ with_clauses l.initial.formula (pair_clauses l.n l.hole l.first l.after);
  room : length l.formula.clauses ≤ length l.initial.formula.clauses + l.after;
}
