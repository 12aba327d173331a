use Rattle.std.proofs.Common.{◌≡◌, ◌+◌, ◌≤◌, length}
use Rattle.formula_kinds.specs.Below.{with_clauses}
use Rattle.formula_kinds.specs.Grid.{apart_clauses}
use Rattle.formula_kinds.proofs.grid.push_apart.Given as goal

-- the clauses of the colours so far were added
abbrev pub invariant-loop-colour : goal.invariant-loop-colour
invariant-loop-colour l = record {
  value : l.formula ≡ with_clauses l.initial.formula (apart_clauses l.cell l.other l.colour);
  room : length l.formula.clauses ≤ length l.initial.formula.clauses + l.colour;
}
