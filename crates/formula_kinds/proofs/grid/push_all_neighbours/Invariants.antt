use Rattle.std.proofs.Common.{◌≡◌, ◌+◌, ◌*◌, ◌≤◌, length}
use Rattle.formula_kinds.specs.Below.{below, with_clauses}
use Rattle.formula_kinds.specs.Grid.{neighbour_clauses}
use Rattle.formula_kinds.proofs.grid.push_all_neighbours.Given as goal

-- the clauses of the rows so far were added
abbrev pub invariant-loop-row : goal.invariant-loop-row
invariant-loop-row l = record {
  value : l.formula ≡ with_clauses l.initial.formula (below (λ r. below (neighbour_clauses l.n r) l.n) l.row);
  room : length l.formula.clauses ≤ 90000 + 1800 * l.row;
}
