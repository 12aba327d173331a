-- How many entries a trail has: as many as there are variables, less those that are free.
use Rattle.std.proofs.Common.{◌≡◌, ℕ, zero, suc, ◌==◌, ◌+◌, ◌<◌, ◌≤◌, Bool, true, false, cond, not, ◌&&◌, List, [], ◌∷◌, length, refl, ap, ◌∙◌, sym, arith}
use Rattle.std.specs.Prelude.{Some, is_none}
use Rattle.std.specs.List.{AllByRecursion}
use Rattle.std.proofs.lemmas.Bool.{eqb-true}
use Rattle.std.proofs.lemmas.Bool.Decides.{nat_tests}
use Rattle.lit_base.specs.Literal.{IsWithin}
use Rattle.lit_base.specs.declared.trail.Entry.{Entry}
use Rattle.lit_base.specs.Trail.{sign_of, is_free, is_full}
use Rattle.lit_base.specs.Fits.{HasDistinctVariables}
use Rattle.lit_base.proofs.FixedPoint.{one_if, free_count, free_count-less}

-- whether a variable is free after one more entry
is_free-cons : (e : Entry) (trail : List Entry) (v : ℕ) (b : Bool) → (e.lit.variable == v) ≡ b → is_free (e ∷ trail) v ≡ cond b false (is_free trail v)
is_free-cons e trail v true is = ap (λ t. is_none (cond t (Some e.lit.positive) (sign_of trail v))) is
is_free-cons e trail v false is = ap (λ t. is_none (cond t (Some e.lit.positive) (sign_of trail v))) is

-- an entry of a variable above takes none
free_count-above : (n : ℕ) (e : Entry) (trail : List Entry) → n < e.lit.variable → free_count n (e ∷ trail) ≡ free_count n trail
free_count-above zero e trail above = refl
free_count-above (suc n) e trail above =
    let other : (e.lit.variable == suc n) ≡ false = grind (arith, nat_tests) in
    let this : one_if (is_free (e ∷ trail) (suc n)) ≡ one_if (is_free trail (suc n)) = ap one_if (is_free-cons e trail (suc n) false other) in
    omega (arith, free_count-above n e trail (omega arith))

one_if-le : (b : Bool) → one_if b ≤ 1
one_if-le true = omega arith
one_if-le false = omega arith

-- an entry takes one at most
free_count-one : (n : ℕ) (e : Entry) (trail : List Entry) → free_count n trail ≤ free_count n (e ∷ trail) + 1
free_count-one zero e trail = omega arith
free_count-one (suc n) e trail = by_test (e.lit.variable == suc n) refl (free_count-one n e trail)
  where
    by_test : (b : Bool) → (e.lit.variable == suc n) ≡ b → free_count n trail ≤ free_count n (e ∷ trail) + 1 → free_count (suc n) trail ≤ free_count (suc n) (e ∷ trail) + 1
    by_test true is below =
        let here : e.lit.variable ≡ suc n = eqb-true _ _ is in
        omega (arith, free_count-above n e trail (omega arith), one_if-le (is_free trail (suc n)))
    by_test false is below =
        let this : one_if (is_free (e ∷ trail) (suc n)) ≡ one_if (is_free trail (suc n)) = ap one_if (is_free-cons e trail (suc n) false is) in
        omega arith

free_count-nil : (n : ℕ) → free_count n [] ≡ n
free_count-nil zero = refl
free_count-nil (suc n) = omega (arith, free_count-nil n)

-- the entries and the free variables are the variables
pub length-free_count : (n : ℕ) (trail : List Entry) → HasDistinctVariables trail → AllByRecursion (λ e. IsWithin n e.lit) trail → length trail + free_count n trail ≡ n
length-free_count n [] distinct within = omega (arith, free_count-nil n)
length-free_count n (e ∷ older) distinct within =
    let less = free_count-less n e older distinct.0 within.0.0 within.0.1 in
    omega (arith, less, free_count-one n e older, length-free_count n older distinct.1 within.1)

-- a trail is full where no variable is counted as free
is_full-free_count : (n : ℕ) (trail : List Entry) → is_full n trail ≡ (free_count n trail == 0)
is_full-free_count zero trail = refl
is_full-free_count (suc n) trail = by_test (is_free trail (suc n)) (is_full n trail) (free_count n trail) (is_full-free_count n trail)
  where
    by_test : (b full : Bool) (count : ℕ) → full ≡ (count == 0) → (not b && full) ≡ (one_if b + count == 0)
    by_test true full count is = grind (arith, nat_tests)
    by_test false full count is = grind (arith, nat_tests)

-- a trail is full where it has as many entries as there are variables
pub is_full-length : (n : ℕ) (trail : List Entry) → HasDistinctVariables trail → AllByRecursion (λ e. IsWithin n e.lit) trail → (length trail == n) ≡ is_full n trail
is_full-length n trail distinct within =
    let all = length-free_count n trail distinct within in
    let same : (length trail == n) ≡ (free_count n trail == 0) = grind (arith, nat_tests, all) in
    same ∙ sym (is_full-free_count n trail)
