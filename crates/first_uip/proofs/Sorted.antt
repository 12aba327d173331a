-- Numbers in order: two lists with the same numbers are one.
use Rattle.std.proofs.Common.{◌≡◌, ℕ, suc, ◌==◌, ◌+◌, ◌≤◌, ◌<◌, cond, List, [], ◌∷◌, length, get_or, count_by, refl, ap, ap₂, arith, inl, inr}
use Rattle.std.specs.List.Sorted.{IsNonDecreasing}
use Rattle.std.proofs.lemmas.Bool.{cases_lt, cond-true, cond-false, eq-eqb, ne_eqb}
use Rattle.std.proofs.lemmas.List.Sums.{sum_by-cons}

-- how often a number stands in a list
abbrev pub times : ℕ → List ℕ → ℕ
times n xs = count_by (λ x. x == n) xs

times-cons : (n x : ℕ) (xs : List ℕ) → times n (x ∷ xs) ≡ cond (x == n) 1 0 + times n xs
times-cons n x xs = sum_by-cons (λ y. cond (y == n) 1 0) x xs

times-first : (x : ℕ) (xs : List ℕ) → times x (x ∷ xs) ≡ 1 + times x xs
times-first x xs = omega (arith, times-cons x x xs, cond-true {A = ℕ} (x == x) 1 0 (eq-eqb x x refl))

-- a number below all stands nowhere
none_below : (n : ℕ) (xs : List ℕ) → ((i d : ℕ) → i < length xs → n < get_or xs i d) → times n xs ≡ 0
none_below n [] above = refl
none_below n (x ∷ xs) above =
    let first : n < x = above 0 0 (omega arith) in
    let apart : cond (x == n) 1 0 ≡ 0 = cond-false {A = ℕ} (x == n) 1 0 (ne_eqb x n (λ is. omega arith)) in
    omega (arith, times-cons n x xs, apart, none_below n xs (λ i d below. above (suc i) d (omega arith)))

-- the first number in order is the least
least : (n x : ℕ) (xs : List ℕ) → IsNonDecreasing (x ∷ xs) → 0 < times n (x ∷ xs) → x ≤ n
least n x xs up there = elim (cases_lt n x) [
  | inl low ↦
      let none : times n (x ∷ xs) ≡ 0 = none_below n (x ∷ xs) (λ i d below. let first : x ≤ get_or (x ∷ xs) i d = up 0 i d (omega arith) below in omega arith) in
      absurd (omega arith)
  | inr high ↦ high
]

-- what is in order stays so without its first
rest_up : (x : ℕ) (xs : List ℕ) → IsNonDecreasing (x ∷ xs) → IsNonDecreasing xs
rest_up x xs up i j d low below = up (suc i) (suc j) d (omega arith) (omega arith)

pub same_sorted : (xs ys : List ℕ) → IsNonDecreasing xs → IsNonDecreasing ys → ((n : ℕ) → times n xs ≡ times n ys) → xs ≡ ys
same_sorted [] [] up up' same = refl
same_sorted [] (y ∷ ys) up up' same = absurd (omega (arith, same y, times-first y ys))
same_sorted (x ∷ xs) [] up up' same = absurd (omega (arith, same x, times-first x xs))
same_sorted (x ∷ xs) (y ∷ ys) up up' same =
    let left : y ≤ x = least x y ys up' (omega (arith, same x, times-first x xs)) in
    let right : x ≤ y = least y x xs up (omega (arith, same y, times-first y ys)) in
    let first : x ≡ y = omega arith in
    ap₂ (λ z zs. z ∷ zs) first
    (same_sorted xs ys (rest_up x xs up) (rest_up y ys up') (λ n. omega (arith, same n, times-cons n x xs, times-cons n y ys, ap {B = ℕ} (λ z. cond (z == n) 1 0) first)))
