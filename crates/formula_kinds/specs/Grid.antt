-- The colouring of a grid: n rows and n columns of cells and three colours, all counted from 0; a cell is known by its
-- number in the order of the rows.
use Rattle.std.specs.Prelude.{ℕ, ◌+◌, ◌*◌, Bool, true, false, List, [], ◌∷◌, ◌++◌, nat_lt, if◌then◌else◌}
use Rattle.lit_base.specs.Literal.{Literal}
use Rattle.lit_base.specs.Cnf.{Cnf}
use Rattle.lit_base.specs.Distinct.{distinct}
use Rattle.formula_kinds.specs.Below.{below}

-- the cell of row r and column c
abbrev pub cell_at : ℕ → ℕ → ℕ → ℕ
cell_at n r c = r * n + c

-- the literal that the cell has colour k, or that it hasn't
abbrev pub colour_literal : ℕ → ℕ → Bool → Literal
colour_literal cell k positive = record { variable = 3 * cell + k + 1; positive = positive }

-- the cell has one of the three colours
abbrev pub some_colour : ℕ → List Literal
some_colour cell = colour_literal cell 0 true ∷ colour_literal cell 1 true ∷ colour_literal cell 2 true ∷ []

-- the clause of the cell of row r and column c: it has one of the colours
abbrev pub colour_clauses : ℕ → ℕ → ℕ → List (List Literal)
colour_clauses n r c = distinct (some_colour (cell_at n r c)) ∷ []

-- the two cells don't both have colour k
abbrev pub not_both : ℕ → ℕ → ℕ → List Literal
not_both cell other k = colour_literal cell k false ∷ colour_literal other k false ∷ []

-- for each of the first k colours: the two cells don't both have it
abbrev pub apart_clauses : ℕ → ℕ → ℕ → List (List Literal)
apart_clauses cell other k = below (λ colour. distinct (not_both cell other colour) ∷ []) k

-- the cell of row r and column c has no colour in common with the one to its right and then with the one below, where they are
abbrev pub neighbour_clauses : ℕ → ℕ → ℕ → List (List Literal)
neighbour_clauses n r c =
    (if nat_lt (c + 1) n then apart_clauses (cell_at n r c) (cell_at n r (c + 1)) 3 else [])
    ++ (if nat_lt (r + 1) n then apart_clauses (cell_at n r c) (cell_at n (r + 1) c) 3 else [])

-- the clauses of each cell, by rows and then columns
abbrev pub over_cells : ℕ → (ℕ → ℕ → List (List Literal)) → List (List Literal)
over_cells n f = below (λ r. below (f r) n) n

-- each cell has a colour, and no two neighbours have one in common
abbrev pub grid_formula : ℕ → Cnf
grid_formula n = record {
  variables = 3 * (n * n);
  clauses = over_cells n (colour_clauses n) ++ over_cells n (neighbour_clauses n);
}
