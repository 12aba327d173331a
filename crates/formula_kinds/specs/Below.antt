-- Lists that are made index by index, and clauses that are added to a formula.
use Rattle.std.specs.Prelude.{ℕ, zero, suc, List, [], ◌++◌}
use Rattle.lit_base.specs.Literal.{Literal}
use Rattle.lit_base.specs.Cnf.{Cnf}

-- what f gives for each index below k, in order
abbrev pub below : {X : Type 0} → (ℕ → List X) → ℕ → List X
below f zero = []
below f (suc k) = below f k ++ f k

-- the formula with these clauses at its end
abbrev pub with_clauses : Cnf → List (List Literal) → Cnf
with_clauses cnf clauses = record { variables = cnf.variables; clauses = cnf.clauses ++ clauses }
