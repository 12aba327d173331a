-- Lists in an order, and the putting in order: what has the same items in order is the same list.
use Rattle.std.proofs.Common.{◌≡◌, ℕ, suc, ◌+◌, ◌<◌, ◌≤◌, Bool, true, false, not, ◌&&◌, cond, List, [], ◌∷◌, ◌++◌, length, get_or, count_by, refl, ap, ap₂, sym, ◌∙◌, arith}
use Rattle.std.specs.Prelude.{filter, sum_by}
use Rattle.std.specs.List.{AllByRecursion, IsDistinct}
use Rattle.std.specs.List.Sorted.{IsPermutation, IsSortedBy, ties}
use Rattle.std.specs.Cmp.{IsStrictWeakOrder}
use Rattle.std.proofs.lemmas.Bool.{cond_both, cond-false, and_right, both_ways, false_from_ne_true, true_from_ne_false}
use Rattle.std.proofs.lemmas.List.Elements.{recursion_from_All}
use Rattle.std.proofs.lemmas.List.Sums.{sum_by-cons}
use Rattle.std.proofs.lemmas.List.Sorted.{sorted_far, sum_by-IsPermutation, IsPermutation-refl, IsPermutation-trans, IsPermutation-cons, IsPermutation-middle}
use Rattle.lit_base.proofs.Lists.{each_when}
use Rattle.trim_rule.specs.Reduction.{with_ordered, in_order}
use Rattle.trim_rule.specs.Laws.{IsInOrder}

-- what holds of an item and of others holds of them in order
pub all-with_ordered : {X : Type 0} (before : X → X → Bool) (P : X → Type 0) (x : X) (xs : List X) → P x → AllByRecursion P xs → AllByRecursion P (with_ordered before x xs)
all-with_ordered before P x [] one all = (one, tt)
all-with_ordered before P x (y ∷ later) one all =
    cond_both (before y x) (y ∷ with_ordered before x later) (x ∷ y ∷ later) (AllByRecursion P) (λ t. (all.0, all-with_ordered before P x later one all.1)) (λ f. (one, all))

pub all-in_order : {X : Type 0} (before : X → X → Bool) (P : X → Type 0) (xs : List X) → AllByRecursion P xs → AllByRecursion P (in_order before xs)
all-in_order before P [] all = tt
all-in_order before P (x ∷ others) all = all-with_ordered before P x (in_order before others) all.0 (all-in_order before P others all.1)

-- an item put in its place keeps the order
ordered-with : {X : Type 0} (before : X → X → Bool) → IsStrictWeakOrder before → (x : X) (xs : List X) → IsInOrder before xs → IsInOrder before (with_ordered before x xs)
ordered-with before o x [] ordered = (tt, tt)
ordered-with before o x (y ∷ later) ordered =
    cond_both (before y x) (y ∷ with_ordered before x later) (x ∷ y ∷ later) (IsInOrder before)
    (λ t. (all-with_ordered before (λ z. before z y ≡ false) x later (o.one_way y x t) ordered.0, ordered-with before o x later ordered.1))
    (λ f. ((f, each_when (λ z. before z y ≡ false) (λ z. before z x ≡ false) (λ z h. o.chain z y x h f) later ordered.0), ordered))

pub ordered-in_order : {X : Type 0} (before : X → X → Bool) → IsStrictWeakOrder before → (xs : List X) → IsInOrder before (in_order before xs)
ordered-in_order before o [] = tt
ordered-in_order before o (x ∷ others) = ordered-with before o x (in_order before others) (ordered-in_order before o others)

-- and changes nothing but the places
permuted-with : {X : Type 0} (before : X → X → Bool) (x : X) (xs : List X) → IsPermutation (x ∷ xs) (with_ordered before x xs)
permuted-with before x [] = IsPermutation-refl (x ∷ [])
permuted-with before x (y ∷ later) =
    cond_both (before y x) (y ∷ with_ordered before x later) (x ∷ y ∷ later) (IsPermutation (x ∷ y ∷ later))
    (λ t. IsPermutation-trans (x ∷ y ∷ later) (y ∷ x ∷ later) (y ∷ with_ordered before x later) (IsPermutation-middle (x ∷ []) y later)
    (IsPermutation-cons y (x ∷ later) (with_ordered before x later) (permuted-with before x later)))
    (λ f. IsPermutation-refl (x ∷ y ∷ later))

pub permuted-in_order : {X : Type 0} (before : X → X → Bool) (xs : List X) → IsPermutation xs (in_order before xs)
permuted-in_order before [] = IsPermutation-refl []
permuted-in_order before (x ∷ others) =
    IsPermutation-trans (x ∷ others) (x ∷ in_order before others) (with_ordered before x (in_order before others))
    (IsPermutation-cons x others (in_order before others) (permuted-in_order before others)) (permuted-with before x (in_order before others))

from_far : {X : Type 0} (before : X → X → Bool) (xs : List X) → ((i j : ℕ) (d : X) → i ≤ j → j < length xs → before (get_or xs j d) (get_or xs i d) ≡ false) → IsInOrder before xs
from_far before [] far = tt
from_far before (x ∷ later) far = (
  recursion_from_All (λ y. before y x ≡ false) later (λ k d below. far 0 (suc k) d (omega arith) (omega arith)),
  from_far before later (λ i j d low below. far (suc i) (suc j) d (omega arith) (omega arith)),
)

-- where no neighbours are out of order, none are
pub ordered_from_sorted : {X : Type 0} (before : X → X → Bool) → IsStrictWeakOrder before → (xs : List X) → IsSortedBy before xs → IsInOrder before xs
ordered_from_sorted before o xs sorted = from_far before xs (sorted_far before o xs sorted)

-- what stands in order, front and back
all_back : {X : Type 0} (P : X → Type 0) (xs ys : List X) → AllByRecursion P (xs ++ ys) → AllByRecursion P ys
all_back P [] ys all = all
all_back P (x ∷ xs) ys all = all_back P xs ys all.1

pub ordered_parts : {X : Type 0} (before : X → X → Bool) (xs ys : List X) → IsInOrder before (xs ++ ys) → AllByRecursion (λ x. AllByRecursion (λ y. before y x ≡ false) ys) xs
ordered_parts before [] ys ordered = tt
ordered_parts before (x ∷ xs) ys ordered = (all_back (λ y. before y x ≡ false) xs ys ordered.0, ordered_parts before xs ys ordered.1)

-- how often items stand in a list that tie with one
abbrev pub times : {X : Type 0} → (X → X → Bool) → X → List X → ℕ
times before n xs = count_by (λ x. ties before x n) xs

times-cons : {X : Type 0} (before : X → X → Bool) (n x : X) (xs : List X) → times before n (x ∷ xs) ≡ cond (ties before x n) 1 0 + times before n xs
times-cons before n x xs = sum_by-cons (λ y. cond (ties before y n) 1 0) x xs

itself : {X : Type 0} (before : X → X → Bool) → IsStrictWeakOrder before → (x : X) → before x x ≡ false
itself before o x = false_from_ne_true (before x x) (λ t. both_ways (before x x) (o.one_way x x t) t)

times-first : {X : Type 0} (before : X → X → Bool) → IsStrictWeakOrder before → (x : X) (xs : List X) → times before x (x ∷ xs) ≡ 1 + times before x xs
times-first before o x xs = times-cons before x x xs ∙ ap (λ b. cond (not b && not b) 1 0 + times before x xs) (itself before o x)

times-none : {X : Type 0} (before : X → X → Bool) (n : X) (xs : List X) → AllByRecursion (λ y. before n y ≡ true) xs → times before n xs ≡ 0
times-none before n [] all = refl
times-none before n (y ∷ later) all =
    let apart : ties before y n ≡ false = ap (λ b. not (before y n) && not b) all.0 ∙ and_right (not (before y n)) false refl in
    omega (arith, times-cons before n y later, cond-false {A = ℕ} (ties before y n) 1 0 apart, times-none before n later all.1)

-- before an item is what is before one that isn't greater
lower : {X : Type 0} (before : X → X → Bool) → IsStrictWeakOrder before → (n x y : X) → before n x ≡ true → before y x ≡ false → before n y ≡ true
lower before o n x y low high = true_from_ne_false (before n y) (λ f. both_ways (before n x) (o.chain n y x f high) low)

-- the first item in order is a least one
least : {X : Type 0} (before : X → X → Bool) → IsStrictWeakOrder before → (n x : X) (xs : List X) → IsInOrder before (x ∷ xs) → 0 < times before n (x ∷ xs) → before n x ≡ false
least before o n x xs ordered there = false_from_ne_true (before n x) (λ low.
    let none : times before n (x ∷ xs) ≡ 0 = times-none before n (x ∷ xs) (low, each_when (λ y. before y x ≡ false) (λ y. before n y ≡ true) (λ y. lower before o n x y low) xs ordered.0) in
    omega (arith, none, there))

pub same_in_order : {X : Type 0} (before : X → X → Bool) → IsStrictWeakOrder before → ((x y : X) → before x y ≡ false → before y x ≡ false → x ≡ y) → (xs ys : List X) →
    IsInOrder before xs → IsInOrder before ys → ((n : X) → times before n xs ≡ times before n ys) → xs ≡ ys
same_in_order before o exact [] [] up down same = refl
same_in_order before o exact [] (y ∷ ys) up down same = absurd (omega (arith, same y, times-first before o y ys))
same_in_order before o exact (x ∷ xs) [] up down same = absurd (omega (arith, same x, times-first before o x xs))
same_in_order before o exact (x ∷ xs) (y ∷ ys) up down same =
    let left = least before o x y ys down (omega (arith, same x, times-first before o x xs)) in
    let right = least before o y x xs up (omega (arith, same y, times-first before o y ys)) in
    let first : x ≡ y = exact x y left right in
    ap₂ (λ z zs. z ∷ zs) first
    (same_in_order before o exact xs ys up.1 down.1
    (λ n. omega (arith, same n, times-cons before n x xs, times-cons before n y ys, ap {B = ℕ} (λ z. cond (ties before z n) 1 0) first)))

-- moving items changes no count
pub times-moved : {X : Type 0} (before : X → X → Bool) (n : X) (xs ys : List X) → IsPermutation xs ys → times before n ys ≡ times before n xs
times-moved before n xs ys moved = sum_by-IsPermutation (λ x. cond (ties before x n) 1 0) xs ys moved

first_counted : {X : Type 0} (before : X → X → Bool) (n x : X) (b : Bool) (rest : List X) (m : ℕ) → times before n rest ≡ m →
    times before n (cond b (x ∷ rest) rest) ≡ cond b (cond (ties before x n) 1 0) 0 + m
first_counted before n x true rest m is = times-cons before n x rest ∙ ap (λ k. cond (ties before x n) 1 0 + k) is
first_counted before n x false rest m is = omega (arith, is)

times-filter : {X : Type 0} (before : X → X → Bool) (p : X → Bool) (n : X) (xs : List X) → times before n (filter p xs) ≡ sum_by (λ x. cond (p x) (cond (ties before x n) 1 0) 0) xs
times-filter before p n [] = refl
times-filter before p n (x ∷ xs) =
    first_counted before n x (p x) (filter p xs) _ (times-filter before p n xs) ∙ sym (sum_by-cons (λ y. cond (p y) (cond (ties before y n) 1 0) 0) x xs)

-- nor does it among those that pass a test
pub times-passed : {X : Type 0} (before : X → X → Bool) (p : X → Bool) (n : X) (xs ys : List X) → IsPermutation xs ys → times before n (filter p ys) ≡ times before n (filter p xs)
times-passed before p n xs ys moved =
    times-filter before p n ys ∙ (sum_by-IsPermutation (λ x. cond (p x) (cond (ties before x n) 1 0) 0) xs ys moved ∙ sym (times-filter before p n xs))

-- what differs from all others stays so in order
distinct-with : {X : Type 0} (before e : X → X → Bool) → ((x y : X) → e x y ≡ e y x) → (x : X) (xs : List X) → AllByRecursion (λ y. e x y ≡ false) xs → IsDistinct e xs →
    IsDistinct e (with_ordered before x xs)
unfolding IsDistinct
distinct-with before e turn x [] all distinct = (tt, tt)
distinct-with before e turn x (y ∷ later) all distinct =
    cond_both (before y x) (y ∷ with_ordered before x later) (x ∷ y ∷ later) (IsDistinct e)
    (λ t. (all-with_ordered before (λ z. e y z ≡ false) x later (turn y x ∙ all.0) distinct.0, distinct-with before e turn x later all.1 distinct.1))
    (λ f. (all, distinct))

pub distinct-in_order : {X : Type 0} (before e : X → X → Bool) → ((x y : X) → e x y ≡ e y x) → (xs : List X) → IsDistinct e xs → IsDistinct e (in_order before xs)
unfolding IsDistinct
distinct-in_order before e turn [] distinct = tt
distinct-in_order before e turn (x ∷ others) distinct =
    distinct-with before e turn x (in_order before others) (all-in_order before (λ y. e x y ≡ false) others distinct.0) (distinct-in_order before e turn others distinct.1)
