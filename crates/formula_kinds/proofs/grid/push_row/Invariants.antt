use Rattle.std.proofs.Common.{◌≡◌, ◌+◌, ◌≤◌, length}
use Rattle.formula_kinds.specs.Below.{below, with_clauses}
use Rattle.formula_kinds.specs.Grid.{colour_clauses}
use Rattle.formula_kinds.proofs.grid.push_row.Given as goal

-- the clauses of the columns so far were added
abbrev pub invariant-loop-column : goal.invariant-loop-column
invariant-loop-column l = record {
  value : l.formula ≡ with_clauses l.initial.formula (below (colour_clauses l.n l.row) l.column);
  room : length l.formula.clauses ≤ length l.initial.formula.clauses + l.column;
}
