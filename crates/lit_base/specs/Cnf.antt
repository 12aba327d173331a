-- Formulas in conjunctive normal form, as contracts see them, and their limits.
use Rattle.std.specs.Prelude.{ℕ, ◌≤◌, List, length, All}
use Rattle.lit_base.specs.Literal.{Literal, IsWithin}

-- how many variables there are, and the clauses in the order of the input
pub record Cnf : Type 0 where
  pub variables : ℕ
  pub clauses : List (List Literal)

-- at most a million variables and four million clauses, and each literal is of one of the variables
pub record IsFormula (cnf : Cnf) : Type 0 where
  pub few_variables : cnf.variables ≤ 1000000
  pub few_clauses : length cnf.clauses ≤ 4000000
  pub within : All (All (IsWithin cnf.variables)) cnf.clauses
