-- A function that is changed at one place, and a list that is read where it has an element.
use Rattle.std.proofs.Common.{◌≡◌, ◌≢◌, ◌⊎◌, ℕ, zero, suc, List, [], ◌∷◌, ◌++◌, length, set, refl, ap, sym, inl, inr, ⊎_elim}
use mathlib.Core.Path.{Path}
use mathlib.Core.Option.{some, some-injective, some-ne-none}
use native.Mathlib.Decide.{ℕ_discrete}
use lib.ListN.{get_elem?}

abbrev pick : {P A : Type 0} → Dec P → A → A → A
pick (yes _) a b = a
pick (no _) a b = b

pub changed : {A : Type 0} → (ℕ → A) → ℕ → A → ℕ → A
changed f i a j = pick (ℕ_discrete j i) a (f j)

pub changed_here : {A : Type 0} (f : ℕ → A) (i : ℕ) (a : A) (j : ℕ) → j ≡ i → Path A (changed f i a j) a
unfolding changed
changed_here {A} f i a j is = go (ℕ_discrete j i)
  where
    go : (d : Dec (j ≡ i)) → Path A (pick d a (f j)) a
    go (yes _) = refl
    go (no n) = absurd (n is)

pub changed_else : {A : Type 0} (f : ℕ → A) (i : ℕ) (a : A) (j : ℕ) → j ≢ i → Path A (changed f i a j) (f j)
unfolding changed
changed_else {A} f i a j other = go (ℕ_discrete j i)
  where
    go : (d : Dec (j ≡ i)) → Path A (pick d a (f j)) (f j)
    go (yes e) = absurd (other e)
    go (no _) = refl

module _ {A : Type 0} where
  -- an element that is there can be written
  pub set_there : (l : List A) (i : ℕ) (a b : A) → get_elem? l i ≡ some a → get_elem? (set l i b) i ≡ some b
  set_there [] i a b e = absurd (some-ne-none a (sym e))
  set_there (x ∷ xs) zero a b e = refl
  set_there (x ∷ xs) (suc i) a b e = set_there xs i a b e

  -- an element of a list with one more is one of the list, or the last
  pub at_snoc_place : (l : List A) (a b : A) (j : ℕ) → get_elem? (l ++ a ∷ []) j ≡ some b → (get_elem? l j ≡ some b) ⊎ ((j ≡ length l) × (a ≡ b))
  at_snoc_place [] a b zero e = inr (refl, some-injective a b e)
  at_snoc_place [] a b (suc j) e = absurd (some-ne-none b (sym e))
  at_snoc_place (x ∷ xs) a b zero e = inl e
  at_snoc_place (x ∷ xs) a b (suc j) e = ⊎_elim (λ t. inl t) (λ t. inr (ap suc t.0, t.1)) (at_snoc_place xs a b j e)
