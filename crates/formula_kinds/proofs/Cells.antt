-- The formula of a grid says that each cell has a colour, and none in common with its neighbours.
use Rattle.std.proofs.Common.{◌≡◌, ℕ, zero, suc, ◌+◌, ◌*◌, ◌<◌, ◌↔◌, Bool, true, false, cond, ◌||◌, List, [], ◌∷◌, refl, sym, ◌∙◌, arith}
use Rattle.std.specs.Bool.{beq}
use Rattle.std.specs.Prelude.{nat_lt}
use Rattle.std.specs.List.{list_all}
use Rattle.std.proofs.lemmas.Bool.{and_from, and_parts, cond_both, lt-ltb, ltb-true}
use Rattle.std.proofs.lemmas.List.Folds.{list_all-append}
use Rattle.lit_base.specs.Literal.{Literal}
use Rattle.lit_base.specs.Distinct.{distinct}
use Rattle.lit_base.specs.Truth.{Satisfies, value_in, is_true_in, is_clause_true}
use Rattle.formula_kinds.specs.Below.{below}
use Rattle.formula_kinds.specs.Grid.{cell_at, colour_clauses, some_colour, not_both, apart_clauses, neighbour_clauses, over_cells, grid_formula}
use Rattle.formula_kinds.specs.Laws.{HasColour, AreApart, CellsAreColoured}
use Rattle.formula_kinds.proofs.BelowLists.{list_all-below, list_all-below_at}
use Rattle.formula_kinds.proofs.Truths.{list_any-distinct, not_both_true, not_both_from}

-- one of three is true
some_of_three : (a : ℕ → Bool) → (beq (a 0) true || (beq (a 1) true || (beq (a 2) true || false))) ≡ true → (k : ℕ) × (k < 3) × (a k ≡ true)
some_of_three a is = by_values (a 0) (a 1) (a 2) refl refl refl is
  where
    by_values : (p q r : Bool) → a 0 ≡ p → a 1 ≡ q → a 2 ≡ r → (beq p true || (beq q true || (beq r true || false))) ≡ true → (k : ℕ) × (k < 3) × (a k ≡ true)
    by_values true q r first second third some = (0, omega arith, first)
    by_values false true r first second third some = (1, omega arith, second)
    by_values false false true first second third some = (2, omega arith, third)
    by_values false false false first second third some = cc

three_from : (a : ℕ → Bool) (k : ℕ) → k < 3 → a k ≡ true → (beq (a 0) true || (beq (a 1) true || (beq (a 2) true || false))) ≡ true
three_from a zero low is = by_values (a 0) (a 1) (a 2) is
  where
    by_values : (p q r : Bool) → p ≡ true → (beq p true || (beq q true || (beq r true || false))) ≡ true
    by_values true q r is = refl
    by_values false q r is = cc
three_from a (suc zero) low is = by_values (a 0) (a 1) (a 2) is
  where
    by_values : (p q r : Bool) → q ≡ true → (beq p true || (beq q true || (beq r true || false))) ≡ true
    by_values true q r is = refl
    by_values false true r is = refl
    by_values false false r is = cc
three_from a (suc (suc zero)) low is = by_values (a 0) (a 1) (a 2) is
  where
    by_values : (p q r : Bool) → r ≡ true → (beq p true || (beq q true || (beq r true || false))) ≡ true
    by_values true q r is = refl
    by_values false true r is = refl
    by_values false false true is = refl
    by_values false false false is = cc
three_from a (suc (suc (suc k))) low is = absurd (omega arith)

-- the clause of a cell is true where it has a colour
coloured : (cell : ℕ) (model : List Bool) → is_clause_true model (distinct (some_colour cell)) ≡ true → (k : ℕ) × (k < 3) × HasColour model cell k
coloured cell model is =
    some_of_three (λ k. value_in model (3 * cell + k + 1)) (sym (list_any-distinct (is_true_in model) (some_colour cell)) ∙ is)

colour_clause : (cell k : ℕ) (model : List Bool) → k < 3 → HasColour model cell k → is_clause_true model (distinct (some_colour cell)) ≡ true
colour_clause cell k model low is =
    list_any-distinct (is_true_in model) (some_colour cell) ∙ three_from (λ k. value_in model (3 * cell + k + 1)) k low is

-- the clauses of two cells are true where the two have no colour in common
apart : (cell other : ℕ) (model : List Bool) → list_all (is_clause_true model) (apart_clauses cell other 3) ≡ true → AreApart model cell other
apart cell other model all k low =
    let t = is_clause_true model in
    let own = list_all-below_at t (λ k. distinct (not_both cell other k) ∷ []) 3 k all low in
    not_both_true _ _ (sym (list_any-distinct (is_true_in model) (not_both cell other k)) ∙ (and_parts (t (distinct (not_both cell other k))) true own).0)

apart_true : (cell other : ℕ) (model : List Bool) → AreApart model cell other → list_all (is_clause_true model) (apart_clauses cell other 3) ≡ true
apart_true cell other model never =
    list_all-below (is_clause_true model) (λ k. distinct (not_both cell other k) ∷ []) 3
    (λ k low. and_from _ _ (list_any-distinct (is_true_in model) (not_both cell other k) ∙ not_both_from _ _ (never k low)) refl)

-- what is added where a test passes
added_at : (t : List Literal → Bool) (b : Bool) (clauses : List (List Literal)) → list_all t (cond b clauses []) ≡ true → b ≡ true → list_all t clauses ≡ true
added_at t true clauses all is = all
added_at t false clauses all is = cc

-- of the clauses of all cells: those of one
of_cell : (t : List Literal → Bool) (n r c : ℕ) (f : ℕ → ℕ → List (List Literal)) → list_all t (over_cells n f) ≡ true → r < n → c < n → list_all t (f r c) ≡ true
of_cell t n r c f all row column = list_all-below_at t (f r) n c (list_all-below_at t (λ r. below (f r) n) n r all row) column

of_cells : (t : List Literal → Bool) (n : ℕ) (f : ℕ → ℕ → List (List Literal)) →
    ((r c : ℕ) → r < n → c < n → list_all t (f r c) ≡ true) → list_all t (over_cells n f) ≡ true
of_cells t n f each = list_all-below t (λ r. below (f r) n) n (λ r row. list_all-below t (f r) n (λ c column. each r c row column))

cells_are_coloured : (n : ℕ) (model : List Bool) → Satisfies model (grid_formula n) → CellsAreColoured n model
cells_are_coloured n model all =
    let t = is_clause_true model in
    let own = colour_clauses n in
    let parts =
    and_parts (list_all t (over_cells n own)) (list_all t (over_cells n (neighbour_clauses n)))
    (sym (list_all-append t (over_cells n own) (over_cells n (neighbour_clauses n))) ∙ all) in
    let right = λ (r c : ℕ). cond (nat_lt (c + 1) n) (apart_clauses (cell_at n r c) (cell_at n r (c + 1)) 3) [] in
    let under = λ (r c : ℕ). cond (nat_lt (r + 1) n) (apart_clauses (cell_at n r c) (cell_at n (r + 1) c) 3) [] in
    let sides = λ (r c : ℕ) (row : r < n) (column : c < n).
    and_parts (list_all t (right r c)) (list_all t (under r c))
    (sym (list_all-append t (right r c) (under r c)) ∙ of_cell t n r c (neighbour_clauses n) parts.1 row column) in
    record {
      coloured = λ r c row column.
          coloured (cell_at n r c) model (and_parts (t (distinct (some_colour (cell_at n r c)))) true (of_cell t n r c own parts.0 row column)).0;
      to_the_right = λ r c row column.
          apart (cell_at n r c) (cell_at n r (c + 1)) model (added_at t (nat_lt (c + 1) n) _ (sides r c row (omega arith)).0 (lt-ltb (c + 1) n column));
      one_below = λ r c row column.
          apart (cell_at n r c) (cell_at n (r + 1) c) model (added_at t (nat_lt (r + 1) n) _ (sides r c (omega arith) column).1 (lt-ltb (r + 1) n row));
    }

neighbours_true : (n r c : ℕ) (model : List Bool) → CellsAreColoured n model → r < n → c < n → list_all (is_clause_true model) (neighbour_clauses n r c) ≡ true
neighbours_true n r c model cells row column =
    let t = is_clause_true model in
    let right = apart_clauses (cell_at n r c) (cell_at n r (c + 1)) 3 in
    let under = apart_clauses (cell_at n r c) (cell_at n (r + 1) c) 3 in
    list_all-append t (cond (nat_lt (c + 1) n) right []) (cond (nat_lt (r + 1) n) under [])
    ∙ and_from _ _
    (cond_both (nat_lt (c + 1) n) right [] (λ xs. list_all t xs ≡ true) (λ is. apart_true _ _ model (cells.to_the_right r c row (ltb-true (c + 1) n is))) (λ is. refl))
    (cond_both (nat_lt (r + 1) n) under [] (λ xs. list_all t xs ≡ true) (λ is. apart_true _ _ model (cells.one_below r c (ltb-true (r + 1) n is) column)) (λ is. refl))

satisfied : (n : ℕ) (model : List Bool) → CellsAreColoured n model → Satisfies model (grid_formula n)
satisfied n model cells =
    let t = is_clause_true model in
    let own = colour_clauses n in
    list_all-append t (over_cells n own) (over_cells n (neighbour_clauses n))
    ∙ and_from _ _
    (of_cells t n own (λ r c row column. let at = cells.coloured r c row column in and_from _ _ (colour_clause (cell_at n r c) at.0 model at.1 at.2) refl))
    (of_cells t n (neighbour_clauses n) (λ r c row column. neighbours_true n r c model cells row column))

pub cells : (n : ℕ) (model : List Bool) → Satisfies model (grid_formula n) ↔ CellsAreColoured n model
cells n model = (cells_are_coloured n model, satisfied n model)
