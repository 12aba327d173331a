-- A formula as it is written.
use Rattle.std.specs.Prelude.{ℕ, ◌+◌, ◌≤◌, List, [], ◌∷◌, ◌++◌, length, flat_map, codes, decimal, All}
use Rattle.lit_base.specs.Literal.{Literal, IsWithin, literal_text}

-- the line of a clause: each literal and a blank, then `0`
abbrev pub clause_line : List Literal → List ℕ
clause_line lits = flat_map (λ l. literal_text l ++ codes " ") lits ++ codes "0\n"

-- the first line: how many variables and clauses there are
abbrev pub header_line : ℕ → ℕ → List ℕ
header_line variables clauses = codes "p cnf " ++ (decimal variables ++ (codes " " ++ (decimal clauses ++ codes "\n")))

-- the text of clauses over so many variables
abbrev pub formula_text : ℕ → List (List Literal) → List ℕ
formula_text variables clauses = header_line variables (length clauses) ++ flat_map clause_line clauses

-- how many literals the clauses have
abbrev pub literal_count : List (List Literal) → ℕ
literal_count [] = 0
literal_count (lits ∷ others) = length lits + literal_count others

-- the clauses can be written as a formula: they are within the format's limits, and each literal is of one of the variables
pub record CanBeWritten (variables : ℕ) (clauses : List (List Literal)) : Type 0 where
  pub few_variables : variables ≤ 1000000
  pub few_clauses : length clauses ≤ 4000000
  pub few_literals : literal_count clauses ≤ 8000000
  pub within : All (All (IsWithin variables)) clauses
