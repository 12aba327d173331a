-- Each literal of a generated formula is of one of its variables.
use Rattle.std.proofs.Common.{ℕ, ◌+◌, ◌-◌, ◌*◌, ◌/◌, ◌<◌, ◌≤◌, Bool, true, false, cond, List, [], ◌∷◌, arith, All}
use Rattle.std.specs.Prelude.{nat_lt}
use Rattle.std.proofs.lemmas.Bool.{cond_both, ltb-true}
use Rattle.std.proofs.lemmas.List.Elements.{All-nil, All-cons, All-append}
use Rattle.lit_base.specs.Literal.{Literal, IsWithin}
use Rattle.lit_base.specs.Distinct.{distinct}
use Rattle.lit_base.proofs.DistinctLits.{All-distinct}
use Rattle.formula_kinds.specs.declared.kind.Kind.{Kind}
use Rattle.formula_kinds.specs.declared.kind.Kind.TheVariants.{Hole, Grid, Rand}
use Rattle.formula_kinds.specs.Below.{below}
use Rattle.formula_kinds.specs.Formula.{formula_of}
use Rattle.formula_kinds.specs.Hole.{pigeon_literal, some_hole, pair_clauses, pigeon_clauses, hole_clauses, hole_formula}
use Rattle.formula_kinds.specs.Grid.{cell_at, colour_clauses, colour_literal, some_colour, apart_clauses, neighbour_clauses, over_cells, grid_formula}
use Rattle.formula_kinds.specs.Rand.{drawn_literal, drawn_clause, rand_formula}
use Rattle.formula_kinds.proofs.BelowLists.{All-below}

-- one literal, and a clause of one, two and three
one : (v : ℕ) (l : Literal) → IsWithin v l → All (IsWithin v) (l ∷ [])
one v l first = All-cons (IsWithin v) l [] first (All-nil (IsWithin v))

one_clause : (v : ℕ) (lits : List Literal) → All (IsWithin v) lits → All (All (IsWithin v)) (distinct lits ∷ [])
one_clause v lits each = All-cons (All (IsWithin v)) (distinct lits) [] (All-distinct (IsWithin v) lits each) (All-nil (All (IsWithin v)))

two : (v : ℕ) (l m : Literal) → IsWithin v l → IsWithin v m → All (All (IsWithin v)) (distinct (l ∷ m ∷ []) ∷ [])
two v l m first second = one_clause v (l ∷ m ∷ []) (All-cons (IsWithin v) l (m ∷ []) first (one v m second))

three : (v : ℕ) (k l m : Literal) → IsWithin v k → IsWithin v l → IsWithin v m → All (All (IsWithin v)) (distinct (k ∷ l ∷ m ∷ []) ∷ [])
three v k l m first second third =
    one_clause v (k ∷ l ∷ m ∷ []) (All-cons (IsWithin v) k (l ∷ m ∷ []) first (All-cons (IsWithin v) l (m ∷ []) second (one v m third)))

-- place b of row a, of so many rows of n places
place_within : (rows n a b : ℕ) → a < rows → b < n → a * n + b + 1 ≤ rows * n
place_within rows n a b row place = grind arith

pigeon_within : (n p h : ℕ) (positive : Bool) → p < n + 1 → h < n → IsWithin ((n + 1) * n) (pigeon_literal n p h positive)
pigeon_within n p h positive pigeon hole = (omega arith, place_within (n + 1) n p h pigeon hole)

hole_within : (n : ℕ) → All (All (IsWithin ((n + 1) * n))) (hole_formula n).clauses
hole_within n =
    let v = (n + 1) * n in
    let P = All (IsWithin v) in
    All-append P (pigeon_clauses n (n + 1)) (below (λ h. hole_clauses n h (n + 1)) n)
    (All-below P (λ p. distinct (some_hole n p n) ∷ []) (n + 1)
    (λ p pigeon. one_clause v (some_hole n p n)
    (All-below (IsWithin v) (λ h. pigeon_literal n p h true ∷ []) n (λ h hole. one v _ (pigeon_within n p h true pigeon hole)))))
    (All-below P (λ h. hole_clauses n h (n + 1)) n
    (λ h hole. All-below P (λ p. pair_clauses n h p (n - p)) (n + 1)
    (λ p pigeon. All-below P (λ i. distinct (pigeon_literal n p h false ∷ pigeon_literal n (p + 1 + i) h false ∷ []) ∷ []) (n - p)
    (λ i after. two v (pigeon_literal n p h false) (pigeon_literal n (p + 1 + i) h false)
    (pigeon_within n p h false pigeon hole) (pigeon_within n (p + 1 + i) h false (omega arith) hole)))))

colour_within : (n cell k : ℕ) (positive : Bool) → cell < n * n → k < 3 → IsWithin (3 * (n * n)) (colour_literal cell k positive)
colour_within n cell k positive within colour = (omega arith, omega arith)

coloured_within : (n cell : ℕ) → cell < n * n → All (All (IsWithin (3 * (n * n)))) (distinct (some_colour cell) ∷ [])
coloured_within n cell within =
    three (3 * (n * n)) (colour_literal cell 0 true) (colour_literal cell 1 true) (colour_literal cell 2 true)
    (colour_within n cell 0 true within (omega arith)) (colour_within n cell 1 true within (omega arith)) (colour_within n cell 2 true within (omega arith))

cell_within : (n r c : ℕ) → r < n → c < n → cell_at n r c < n * n
cell_within n r c row column = let most = place_within n n r c row column in omega arith

apart_within : (n cell other : ℕ) → cell < n * n → other < n * n → All (All (IsWithin (3 * (n * n)))) (apart_clauses cell other 3)
apart_within n cell other first second =
    All-below (All (IsWithin (3 * (n * n)))) (λ k. distinct (colour_literal cell k false ∷ colour_literal other k false ∷ []) ∷ []) 3
    (λ k colour. two (3 * (n * n)) (colour_literal cell k false) (colour_literal other k false)
    (colour_within n cell k false first colour) (colour_within n other k false second colour))

neighbours_within : (n r c : ℕ) → r < n → c < n → All (All (IsWithin (3 * (n * n)))) (neighbour_clauses n r c)
neighbours_within n r c row column =
    let P = All (IsWithin (3 * (n * n))) in
    let cell = cell_within n r c row column in
    let right = apart_clauses (cell_at n r c) (cell_at n r (c + 1)) 3 in
    let under = apart_clauses (cell_at n r c) (cell_at n (r + 1) c) 3 in
    All-append P (cond (nat_lt (c + 1) n) right []) (cond (nat_lt (r + 1) n) under [])
    (cond_both (nat_lt (c + 1) n) right [] (All P) (λ is. apart_within n _ _ cell (cell_within n r (c + 1) row (ltb-true (c + 1) n is))) (λ is. All-nil P))
    (cond_both (nat_lt (r + 1) n) under [] (All P) (λ is. apart_within n _ _ cell (cell_within n (r + 1) c (ltb-true (r + 1) n is) column)) (λ is. All-nil P))

grid_within : (n : ℕ) → All (All (IsWithin (3 * (n * n)))) (grid_formula n).clauses
grid_within n =
    let v = 3 * (n * n) in
    let P = All (IsWithin v) in
    All-append P (over_cells n (colour_clauses n)) (over_cells n (neighbour_clauses n))
    (All-below P (λ r. below (colour_clauses n r) n) n
    (λ r row. All-below P (colour_clauses n r) n
    (λ c column. coloured_within n (cell_at n r c) (cell_within n r c row column))))
    (All-below P (λ r. below (neighbour_clauses n r) n) n (λ r row. All-below P (neighbour_clauses n r) n (λ c column. neighbours_within n r c row column)))

drawn_within : (n seed t : ℕ) → 1 ≤ n → IsWithin n (drawn_literal n seed t)
drawn_within n seed t some = (omega arith, omega arith)

rand_within : (n seed : ℕ) → 1 ≤ n → All (All (IsWithin n)) (rand_formula n seed).clauses
rand_within n seed some =
    All-below (All (IsWithin n)) (λ i. distinct (drawn_clause n seed i) ∷ []) (17 * n / 4)
    (λ i low. three n _ _ _ (drawn_within n seed (3 * i + 1) some) (drawn_within n seed (3 * i + 2) some) (drawn_within n seed (3 * i + 3) some))

pub formula_within : (kind : Kind) (n seed : ℕ) → 1 ≤ n → All (All (IsWithin (formula_of kind n seed).variables)) (formula_of kind n seed).clauses
formula_within Hole n seed some = hole_within n
formula_within Grid n seed some = grid_within n
formula_within Rand n seed some = rand_within n seed some
