use Rattle.std.proofs.Common.{◌≡◌, ◌≤◌, length}
use Rattle.formula_kinds.specs.Rand.{drawn_clauses}
use Rattle.formula_kinds.proofs.random.rand_formula.Given as goal

-- the clauses so far
abbrev pub invariant-loop-i : goal.invariant-loop-i
invariant-loop-i l = record {
  variables : l.formula.variables ≡ l.n;
  value : l.formula.clauses ≡ drawn_clauses l.n l.seed l.i;
  room : length l.formula.clauses ≤ l.i;
}
