-- Lists that are made index by index: what holds of the part of each index holds of the whole, and the other way round.
use Rattle.std.proofs.Common.{◌≡◌, ℕ, zero, suc, ◌*◌, ◌<◌, Bool, true, ◌||◌, List, [], ◌∷◌, ◌++◌, length, refl, sym, subst, ◌∙◌, ◌⊎◌, inl, inr, arith, All, length-append}
use Rattle.std.specs.Prelude.{Some, slice_get}
use Rattle.std.specs.List.{list_all, list_any}
use Rattle.std.proofs.lemmas.Bool.{and_from, and_parts, or_cases, or_left, or_right, cases_eq}
use Rattle.std.proofs.lemmas.List.Elements.{All-nil, All-append}
use Rattle.std.proofs.lemmas.List.Folds.{list_all-append, list_any-append}
use Rattle.formula_kinds.specs.Below.{below}

-- what holds below k, and of k, holds of each index up to k
up_to_last : (P : ℕ → Type 0) (i k : ℕ) → i < suc k → (i < k → P i) → P k → P i
up_to_last P i k low before last = by_order (cases_eq i k)
  where
    by_order : (i ≡ k) ⊎ (i ≡ k → ⊥) → P i
    by_order (inl same) = subst P (sym same) last
    by_order (inr other) = before (omega arith)

-- the length, where each index gives as many items
pub length-below : {X : Type 0} (f : ℕ → List X) (a k : ℕ) → ((i : ℕ) → i < k → length (f i) ≡ a) → length (below f k) ≡ k * a
length-below f a zero each = omega arith
length-below f a (suc k) each =
    let front : length (below f k) ≡ k * a = length-below f a k (λ i low. each i (omega arith)) in
    let last : length (f k) ≡ a = each k (omega arith) in
    length-append (below f k) (f k) ∙ omega arith

pub All-below : {X : Type 0} (P : X → Type 0) (f : ℕ → List X) (k : ℕ) → ((i : ℕ) → i < k → All P (f i)) → All P (below f k)
All-below P f zero each = All-nil P
All-below P f (suc k) each = All-append P (below f k) (f k) (All-below P f k (λ i low. each i (omega arith))) (each k (omega arith))

pub list_all-below : {X : Type 0} (p : X → Bool) (f : ℕ → List X) (k : ℕ) → ((i : ℕ) → i < k → list_all p (f i) ≡ true) → list_all p (below f k) ≡ true
list_all-below p f zero each = refl
list_all-below p f (suc k) each =
    list_all-append p (below f k) (f k) ∙ and_from _ _ (list_all-below p f k (λ i low. each i (omega arith))) (each k (omega arith))

pub list_all-below_at : {X : Type 0} (p : X → Bool) (f : ℕ → List X) (k i : ℕ) → list_all p (below f k) ≡ true → i < k → list_all p (f i) ≡ true
list_all-below_at p f zero i all low = absurd (omega arith)
list_all-below_at p f (suc k) i all low =
    let parts = and_parts (list_all p (below f k)) (list_all p (f k)) (sym (list_all-append p (below f k) (f k)) ∙ all) in
    up_to_last (λ j. list_all p (f j) ≡ true) i k low (list_all-below_at p f k i parts.0) parts.1

pub list_any-below : {X : Type 0} (p : X → Bool) (f : ℕ → List X) (k i : ℕ) → i < k → list_any p (f i) ≡ true → list_any p (below f k) ≡ true
list_any-below p f zero i low some = absurd (omega arith)
list_any-below p f (suc k) i low some =
    list_any-append p (below f k) (f k)
    ∙ up_to_last (λ j. list_any p (f j) ≡ true → (list_any p (below f k) || list_any p (f k)) ≡ true) i k low
    (λ before here. or_left _ _ (list_any-below p f k i before here)) (λ here. or_right _ _ here) some

-- some index gives an item that passes
pub list_any-below_at : {X : Type 0} (p : X → Bool) (f : ℕ → List X) (k : ℕ) → list_any p (below f k) ≡ true → (i : ℕ) × (i < k) × (list_any p (f i) ≡ true)
list_any-below_at p f zero some = cc
list_any-below_at {X} p f (suc k) some =
    by_part (list_any-below_at p f k) (or_cases _ _ (sym (list_any-append p (below f k) (f k)) ∙ some))
  where
    by_part : (list_any p (below f k) ≡ true → (i : ℕ) × (i < k) × (list_any p (f i) ≡ true)) → (list_any p (below f k) ≡ true) ⊎ (list_any p (f k) ≡ true) →
        (i : ℕ) × (i < suc k) × (list_any p (f i) ≡ true)
    by_part earlier (inl front) = let at = earlier front in (at.0, (let low : at.0 < suc k = omega arith in low), at.2)
    by_part earlier (inr last) = (k, omega arith, last)

-- the item of an index, where each index gives one
slice_get-last : {X : Type 0} (xs : List X) (x : X) (i : ℕ) → i ≡ length xs → slice_get (xs ++ x ∷ []) i ≡ Some x
slice_get-last [] x i same = rw same refl
slice_get-last (y ∷ ys) x zero same = absurd (omega arith)
slice_get-last (y ∷ ys) x (suc i) same = slice_get-last ys x i (omega arith)

slice_get-front : {X : Type 0} (xs : List X) (x : X) (i : ℕ) → i < length xs → slice_get (xs ++ x ∷ []) i ≡ slice_get xs i
slice_get-front [] x i low = absurd (omega arith)
slice_get-front (y ∷ ys) x zero low = refl
slice_get-front (y ∷ ys) x (suc i) low = slice_get-front ys x i (omega arith)

pub slice_get-below : {X : Type 0} (g : ℕ → X) (k i : ℕ) → i < k → slice_get (below (λ j. g j ∷ []) k) i ≡ Some (g i)
slice_get-below g zero i low = absurd (omega arith)
slice_get-below {X} g (suc k) i low =
    let front = below (λ (j : ℕ). g j ∷ []) k in
    let many : length front ≡ k = length-below (λ (j : ℕ). g j ∷ []) 1 k (λ j h. refl) ∙ omega arith in
    up_to_last (λ j. slice_get (front ++ g k ∷ []) j ≡ Some (g j)) i k low
    (λ before. slice_get-front front (g k) i (omega arith) ∙ slice_get-below g k i before)
    (slice_get-last front (g k) k (sym many))
