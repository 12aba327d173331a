-- How many clauses the formulas have.
use Rattle.std.proofs.Common.{◌≡◌, ℕ, zero, suc, ◌+◌, ◌-◌, ◌*◌, ◌/◌, ◌<◌, ◌≤◌, Bool, true, false, cond, List, [], ◌∷◌, length, refl, ap, ◌∙◌, arith, length-append}
use Rattle.std.specs.Prelude.{nat_lt}
use Rattle.std.proofs.lemmas.Bool.{lt-ltb, le-ltb}
use Rattle.lit_base.specs.Distinct.{distinct}
use Rattle.formula_kinds.specs.Below.{below}
use Rattle.formula_kinds.specs.Hole.{some_hole, not_both, pair_clauses, pigeon_clauses, hole_clauses, hole_formula}
use Rattle.formula_kinds.specs.Grid.{cell_at, colour_clauses, apart_clauses, neighbour_clauses, grid_formula}
use Rattle.formula_kinds.specs.Rand.{drawn_clause, rand_formula}
use Rattle.formula_kinds.proofs.BelowLists.{length-below}

-- of the first k pigeons, each with those after it, there are k (2 n + 1 - k) / 2 pairs
length-pairs : (n h k : ℕ) → k ≤ n + 1 → 2 * length (hole_clauses n h k) + k * k ≡ k * (2 * n + 1)
length-pairs n h zero within = omega arith
length-pairs n h (suc k) within =
    let before : 2 * length (hole_clauses n h k) + k * k ≡ k * (2 * n + 1) = length-pairs n h k (omega arith) in
    let here : length (pair_clauses n h k (n - k)) ≡ (n - k) * 1 = length-below (λ i. distinct (not_both n h k (k + 1 + i)) ∷ []) 1 (n - k) (λ i low. refl) in
    let both : length (hole_clauses n h (suc k)) ≡ length (hole_clauses n h k) + length (pair_clauses n h k (n - k)) =
    length-append (hole_clauses n h k) (pair_clauses n h k (n - k)) in
    omega arith

-- twice the length of a list of lists of one length
twice-below : {X : Type 0} (f : ℕ → List X) (a k : ℕ) → ((i : ℕ) → i < k → 2 * length (f i) ≡ a) → 2 * length (below f k) ≡ k * a
twice-below f a zero each = omega arith
twice-below f a (suc k) each =
    let front : 2 * length (below f k) ≡ k * a = twice-below f a k (λ i low. each i (omega arith)) in
    let last : 2 * length (f k) ≡ a = each k (omega arith) in
    let both = length-append (below f k) (f k) in
    omega arith

pub length-hole : (n : ℕ) → 2 * length (hole_formula n).clauses ≡ 2 * (n + 1) + n * (n * (n + 1))
length-hole n =
    let holes = below (λ (h : ℕ). hole_clauses n h (n + 1)) n in
    let pigeons : length (pigeon_clauses n (n + 1)) ≡ (n + 1) * 1 = length-below (λ p. distinct (some_hole n p n) ∷ []) 1 (n + 1) (λ p low. refl) in
    let each : (h : ℕ) → h < n → 2 * length (hole_clauses n h (n + 1)) ≡ n * (n + 1) = λ h low. let own = length-pairs n h (n + 1) (omega arith) in omega arith in
    let all : 2 * length holes ≡ n * (n * (n + 1)) = twice-below (λ h. hole_clauses n h (n + 1)) (n * (n + 1)) n each in
    let both = length-append (pigeon_clauses n (n + 1)) holes in
    omega arith

-- three clauses for a neighbour, where there is one
length-where : (is : Bool) (cell other : ℕ) → length (cond is (apart_clauses cell other 3) []) ≡ cond is 3 0
length-where true cell other = refl
length-where false cell other = refl

length-neighbours : (n r c : ℕ) → length (neighbour_clauses n r c) ≡ cond (nat_lt (c + 1) n) 3 0 + cond (nat_lt (r + 1) n) 3 0
length-neighbours n r c =
    let right = length-where (nat_lt (c + 1) n) (cell_at n r c) (cell_at n r (c + 1)) in
    let under = length-where (nat_lt (r + 1) n) (cell_at n r c) (cell_at n (r + 1) c) in
    length-append (cond (nat_lt (c + 1) n) (apart_clauses (cell_at n r c) (cell_at n r (c + 1)) 3) [])
    (cond (nat_lt (r + 1) n) (apart_clauses (cell_at n r c) (cell_at n (r + 1) c) 3) [])
    ∙ omega arith

-- with three clauses to the right, and with none
three_more : (right : Bool) (more under : ℕ) → more ≡ under → right ≡ true → cond right 3 0 + more ≡ 3 + under
three_more true more under is right = omega arith
three_more false more under is right = cc

none_more : (right : Bool) (more under : ℕ) → more ≡ under → right ≡ false → cond right 3 0 + more ≡ under
none_more true more under is right = cc
none_more false more under is right = omega arith

-- a row has so many clauses for each cell with one below it, and three more for each but the last
length-row : (m r under : ℕ) → cond (nat_lt (r + 1) (suc m)) 3 0 ≡ under → length (below (neighbour_clauses (suc m) r) (suc m)) ≡ m * (3 + under) + under
length-row m r under is =
    let front : length (below (neighbour_clauses (suc m) r) m) ≡ m * (3 + under) =
    length-below (neighbour_clauses (suc m) r) (3 + under) m
    (λ c low. length-neighbours (suc m) r c ∙ three_more (nat_lt (c + 1) (suc m)) _ under is (lt-ltb (c + 1) (suc m) (omega arith))) in
    let last : length (neighbour_clauses (suc m) r m) ≡ under =
    length-neighbours (suc m) r m ∙ none_more (nat_lt (m + 1) (suc m)) _ under is (le-ltb (m + 1) (suc m) (omega arith)) in
    let both = length-append (below (neighbour_clauses (suc m) r) m) (neighbour_clauses (suc m) r m) in
    omega arith

length-all_neighbours : (n : ℕ) → length (below (λ r. below (neighbour_clauses n r) n) n) ≡ 6 * (n * (n - 1))
length-all_neighbours zero = refl
length-all_neighbours (suc m) =
    let row = λ (r : ℕ). below (neighbour_clauses (suc m) r) (suc m) in
    let front : length (below row m) ≡ m * (m * 6 + 3) =
    length-below row (m * 6 + 3) m
    (λ r low. length-row m r 3 (ap (λ b. cond b 3 0) (lt-ltb (r + 1) (suc m) (omega arith)))) in
    let last : length (row m) ≡ m * 3 + 0 = length-row m m 0 (ap (λ b. cond b 3 0) (le-ltb (m + 1) (suc m) (omega arith))) in
    let both = length-append (below row m) (row m) in
    let less : suc m - 1 ≡ m = omega arith in
    rw less (omega arith)

pub length-grid : (n : ℕ) → length (grid_formula n).clauses ≡ n * n + 6 * (n * (n - 1))
length-grid n =
    let cells = below (λ (r : ℕ). below (colour_clauses n r) n) n in
    let neighbours = below (λ (r : ℕ). below (neighbour_clauses n r) n) n in
    let first : length cells ≡ n * (n * 1) =
    length-below (λ r. below (colour_clauses n r) n) (n * 1) n
    (λ r low. length-below (colour_clauses n r) 1 n (λ c h. refl)) in
    let second : length neighbours ≡ 6 * (n * (n - 1)) = length-all_neighbours n in
    length-append cells neighbours ∙ omega arith

pub length-rand : (n seed : ℕ) → length (rand_formula n seed).clauses ≡ 17 * n / 4
length-rand n seed = length-below (λ i. distinct (drawn_clause n seed i) ∷ []) 1 (17 * n / 4) (λ i low. refl) ∙ omega arith
