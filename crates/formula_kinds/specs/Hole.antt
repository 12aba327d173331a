-- Pigeons and holes: n + 1 pigeons and n holes, both counted from 0.
use Rattle.std.specs.Prelude.{ℕ, ◌+◌, ◌-◌, ◌*◌, Bool, true, false, List, [], ◌∷◌, ◌++◌}
use Rattle.lit_base.specs.Literal.{Literal}
use Rattle.lit_base.specs.Cnf.{Cnf}
use Rattle.lit_base.specs.Distinct.{distinct}
use Rattle.formula_kinds.specs.Below.{below}

-- the literal that pigeon p sits in hole h, or that it doesn't
abbrev pub pigeon_literal : ℕ → ℕ → ℕ → Bool → Literal
pigeon_literal n p h positive = record { variable = p * n + h + 1; positive = positive }

-- pigeon p sits in one of the first k holes
abbrev pub some_hole : ℕ → ℕ → ℕ → List Literal
some_hole n p k = below (λ h. pigeon_literal n p h true ∷ []) k

-- pigeons p and q don't both sit in hole h
abbrev pub not_both : ℕ → ℕ → ℕ → ℕ → List Literal
not_both n h p q = pigeon_literal n p h false ∷ pigeon_literal n q h false ∷ []

-- for each of the first k pigeons: it sits in a hole
abbrev pub pigeon_clauses : ℕ → ℕ → List (List Literal)
pigeon_clauses n k = below (λ p. distinct (some_hole n p n) ∷ []) k

-- for each of the first k pigeons after pigeon p: the two don't both sit in hole h
abbrev pub pair_clauses : ℕ → ℕ → ℕ → ℕ → List (List Literal)
pair_clauses n h p k = below (λ i. distinct (not_both n h p (p + 1 + i)) ∷ []) k

-- for each of the first k pigeons, and each one after it: the two don't both sit in hole h
abbrev pub hole_clauses : ℕ → ℕ → ℕ → List (List Literal)
hole_clauses n h k = below (λ p. pair_clauses n h p (n - p)) k

-- each pigeon sits in a hole, and no two sit in one hole
abbrev pub hole_formula : ℕ → Cnf
hole_formula n = record {
  variables = (n + 1) * n;
  clauses = pigeon_clauses n (n + 1) ++ below (λ h. hole_clauses n h (n + 1)) n;
}
