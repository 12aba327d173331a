-- Random clauses over n variables.
use Rattle.std.specs.Prelude.{ℕ, ◌+◌, ◌*◌, ◌/◌, ◌%◌, ◌==◌, List, [], ◌∷◌}
use Rattle.lit_base.specs.Literal.{Literal}
use Rattle.lit_base.specs.Cnf.{Cnf}
use Rattle.lit_base.specs.Distinct.{distinct}
use Rattle.core_rows.specs.Noise.{noise}
use Rattle.formula_kinds.specs.Below.{below}

-- the literal of draw t, counted from 1: a variable by the upper 63 bits of its noise, negated where the noise is odd
abbrev pub drawn_literal : ℕ → ℕ → ℕ → Literal
drawn_literal n seed t = record { variable = noise seed 64 t / 2 % n + 1; positive = noise seed 64 t % 2 == 0 }

-- the literals of clause i, counted from 0: those of the next three draws
abbrev pub drawn_clause : ℕ → ℕ → ℕ → List Literal
drawn_clause n seed i =
    drawn_literal n seed (3 * i + 1) ∷ drawn_literal n seed (3 * i + 2) ∷ drawn_literal n seed (3 * i + 3) ∷ []

-- the first k clauses
abbrev pub drawn_clauses : ℕ → ℕ → ℕ → List (List Literal)
drawn_clauses n seed k = below (λ i. distinct (drawn_clause n seed i) ∷ []) k

-- 17 clauses for each four variables
abbrev pub rand_formula : ℕ → ℕ → Cnf
rand_formula n seed = record { variables = n; clauses = drawn_clauses n seed (17 * n / 4) }
