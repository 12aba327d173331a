-- The signs of variables on a trail, and what follows for a trail that leaves none free.
use Rattle.std.proofs.Common.{◌≡◌, ℕ, zero, suc, ◌==◌, ◌+◌, ◌<◌, Bool, true, false, cond, not, List, [], ◌∷◌, ◌++◌, refl, ap, ◌∙◌, sym, arith, add-one, add-zero, ◌⊎◌, inl, inr}
use Rattle.std.specs.Prelude.{Option, Some, None, is_none, find, option_map}
use Rattle.std.proofs.lemmas.Bool.{and_left, and_right, and_from}
use Rattle.lit_base.specs.declared.trail.Entry.{Entry}
use Rattle.lit_base.specs.Trail.{sign_of, is_free, is_full, value_or_false, values_from}

sign_by_cases : (e : Entry) (found : Option Entry) (b : Bool) → cond b (Some e.lit.positive) (option_map (λ n. n.lit.positive) found) ≡ option_map (λ n. n.lit.positive) (cond b (Some e) found)
sign_by_cases e found true = refl
sign_by_cases e found false = refl

-- the sign is that of the newest entry of the variable
pub sign_of_newest : (trail : List Entry) (v : ℕ) → sign_of trail v ≡ option_map (λ e. e.lit.positive) (find (λ e. e.lit.variable == v) trail)
sign_of_newest [] v = refl
sign_of_newest (e ∷ older) v =
    ap (λ o. cond (e.lit.variable == v) (Some e.lit.positive) o) (sign_of_newest older v)
    ∙ sign_by_cases e (find (λ n. n.lit.variable == v) older) (e.lit.variable == v)

-- a variable that is free is left free
full_unless_free : (n i : ℕ) (trail : List Entry) → i < n → sign_of trail (suc i) ≡ None → is_full n trail ≡ false
full_unless_free zero i trail below free = absurd (omega arith)
full_unless_free (suc n) i trail below free = elim (last_or_below n i below) [
  | inl is ↦ and_left (not (is_free trail (suc n))) (is_full n trail) (let e : sign_of trail (suc n) ≡ None = ap (λ k. sign_of trail (suc k)) (sym is) ∙ free in ap (λ o. not (is_none o)) e)
  | inr earlier ↦ and_right (not (is_free trail (suc n))) (is_full n trail) (full_unless_free n i trail earlier free)
]
  where
    last_or_below : (n i : ℕ) → i < suc n → (i ≡ n) ⊎ (i < n)
    last_or_below n i below = grind arith

pub is_full-free : (n i : ℕ) (trail : List Entry) → i < n → sign_of trail (i + 1) ≡ None → is_full n trail ≡ false
is_full-free n i trail below free = full_unless_free n i trail below (rw add-one at free)

-- one more variable with a value
pub is_full-more : (n : ℕ) (trail : List Entry) (sign : Bool) → is_full n trail ≡ true → sign_of trail (n + 1) ≡ Some sign → is_full (n + 1) trail ≡ true
is_full-more n trail sign full is =
    rw add-one (and_from (not (is_free trail (suc n))) (is_full n trail) (ap (λ o. not (is_none o)) (rw add-one at is)) full)

-- the values of n variables and one more
values_from-suc : (n first : ℕ) (trail : List Entry) → values_from (suc n) first trail ≡ values_from n first trail ++ value_or_false (sign_of trail (first + n)) ∷ []
values_from-suc zero first trail = ap (λ k. value_or_false (sign_of trail k) ∷ []) (sym (add-zero first))
values_from-suc (suc n) first trail =
    ap (λ t. value_or_false (sign_of trail first) ∷ t) (values_from-suc n (suc first) trail)
    ∙ ap (λ k. value_or_false (sign_of trail first) ∷ (values_from n (suc first) trail ++ value_or_false (sign_of trail k) ∷ [])) (let e : suc first + n ≡ first + suc n = omega arith in e)

pub values_from-more : (n : ℕ) (trail : List Entry) (sign : Bool) → sign_of trail (n + 1) ≡ Some sign → values_from (n + 1) 1 trail ≡ values_from n 1 trail ++ sign ∷ []
values_from-more n trail sign is =
    rw add-one (values_from-suc n 1 trail ∙ ap (λ o. values_from n 1 trail ++ value_or_false o ∷ []) (let e : 1 + n ≡ n + 1 = omega arith in ap (λ k. sign_of trail k) e ∙ is))
