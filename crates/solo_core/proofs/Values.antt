-- The values of the variables on a trail, one after the other.
use Rattle.std.proofs.Common.{◌≡◌, ℕ, zero, suc, ◌+◌, Bool, true, false, List, [], ◌∷◌, ◌++◌, reverse, refl, ap, ◌∙◌, sym, arith, add-one, add-zero}
use Rattle.std.specs.Prelude.{Option, Some, None, is_none, slice_get}
use Rattle.std.proofs.lemmas.Option.{same_Some}
use Rattle.lit_base.specs.Trail.{is_free, sign_of, value_or_false, values_from}
use Rattle.lit_base.specs.declared.trail.Entry.{Entry}
use Rattle.trail_book.specs.TrailState.{place_of}
use Rattle.trail_book.proofs.Places.{place_of-entry}

values_from-suc : (n first : ℕ) (trail : List Entry) → values_from (suc n) first trail ≡ values_from n first trail ++ value_or_false (sign_of trail (first + n)) ∷ []
values_from-suc zero first trail = ap (λ k. value_or_false (sign_of trail k) ∷ []) (sym (add-zero first))
values_from-suc (suc n) first trail =
    ap (λ t. value_or_false (sign_of trail first) ∷ t) (values_from-suc n (suc first) trail)
    ∙ ap (λ k. value_or_false (sign_of trail first) ∷ (values_from n (suc first) trail ++ value_or_false (sign_of trail k) ∷ [])) (let e : suc first + n ≡ first + suc n = omega arith in e)

-- the values of one variable more
pub values-more : (n : ℕ) (trail : List Entry) → values_from (n + 1) 1 trail ≡ values_from n 1 trail ++ value_or_false (sign_of trail (n + 1)) ∷ []
values-more n trail =
    rw add-one (values_from-suc n 1 trail ∙ ap (λ k. values_from n 1 trail ++ value_or_false (sign_of trail k) ∷ []) (let e : 1 + n ≡ suc n = omega arith in e))

-- a variable that is free has no sign
pub free_is_false : (trail : List Entry) (v : ℕ) → is_free trail v ≡ true → value_or_false (sign_of trail v) ≡ false
free_is_false trail v free = by_sign (sign_of trail v) free
  where
    by_sign : (o : Option Bool) → is_none o ≡ true → value_or_false o ≡ false
    by_sign None none = refl
    by_sign (Some sign) none = cc

-- the sign of the entry at a variable's place
pub sign_at_place : (trail : List Entry) (v place : ℕ) (e : Entry) → place_of trail v ≡ Some place → slice_get (reverse trail) place ≡ Some e → sign_of trail v ≡ Some e.lit.positive
sign_at_place trail v place e is there =
    let at = place_of-entry trail v place is in
    at.sign ∙ ap (λ n. Some n.lit.positive) (same_Some at.entry e (sym at.stands ∙ there))
