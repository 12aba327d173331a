-- Where a literal stands, by its value and the place of its variable.
use Rattle.std.proofs.Common.{◌≡◌, ◌⊎◌, inl, inr, ℕ, ◌+◌, ◌-◌, ◌^◌, ◌<◌, ◌≤◌, Bool, true, false, cond, List, length, refl, ap, ◌∙◌, sym, arith}
use Rattle.std.specs.Prelude.{Option, Some, None, is_none, nat_lt}
use Rattle.std.specs.Bool.{beq}
use Rattle.std.proofs.lemmas.Bool.{lt-ltb, le-ltb}
use Rattle.lit_base.specs.Literal.{Literal}
use Rattle.lit_base.specs.declared.trail.Entry.{Entry}
use Rattle.lit_base.specs.declared.trail.Value.TheVariants.{True, False, Free}
use Rattle.lit_base.specs.Trail.{sign_of, value_by, trail_value, is_true_value, is_true}
use Rattle.trail_book.specs.TrailState.{place_of, standing_by, standing_of}
use Rattle.trail_book.specs.Arrays.{value_by_standing, place_by_standing}
use Rattle.trail_book.proofs.Places.{none_is, place_of-entry, place_of-is_none}

-- a literal that is true, one that is false, and one that is free, each with where it stands
pub record StandsTrue (trail : List Entry) (l : Literal) : Type 0 where
  pub place : ℕ
  pub within : place < length trail
  pub at : place_of trail l.variable ≡ Some place
  pub value : trail_value trail l ≡ True
  pub standing : standing_of trail l ≡ place

pub record StandsFalse (trail : List Entry) (l : Literal) : Type 0 where
  pub place : ℕ
  pub within : place < length trail
  pub at : place_of trail l.variable ≡ Some place
  pub value : trail_value trail l ≡ False
  pub standing : standing_of trail l ≡ 2 ^ 31 + place

pub record StandsFree (trail : List Entry) (l : Literal) : Type 0 where
  pub at : place_of trail l.variable ≡ None
  pub value : trail_value trail l ≡ Free
  pub standing : standing_of trail l ≡ 2 ^ 30

-- each literal is one of the three
pub stands : (trail : List Entry) (l : Literal) → StandsTrue trail l ⊎ (StandsFalse trail l ⊎ StandsFree trail l)
stands trail l = by_place (place_of trail l.variable) refl
  where
    by_sign : (place : ℕ) (sign same : Bool) → place < length trail → place_of trail l.variable ≡ Some place → sign_of trail l.variable ≡ Some sign → beq sign l.positive ≡ same →
        StandsTrue trail l ⊎ (StandsFalse trail l ⊎ StandsFree trail l)
    by_sign place sign true within at signed is =
        let value : trail_value trail l ≡ True = ap (λ o. value_by o l.positive) signed ∙ ap (λ b. cond b True False) is in
        inl (record {
          place = place;
          within = within;
          at = at;
          value = value;
          standing = ap (λ o. standing_by o (is_true trail l)) at ∙ ap (λ v. standing_by (Some place) (is_true_value v)) value;
        })
    by_sign place sign false within at signed is =
        let value : trail_value trail l ≡ False = ap (λ o. value_by o l.positive) signed ∙ ap (λ b. cond b True False) is in
        inr (inl (record {
          place = place;
          within = within;
          at = at;
          value = value;
          standing = ap (λ o. standing_by o (is_true trail l)) at ∙ ap (λ v. standing_by (Some place) (is_true_value v)) value;
        }))

    by_place : (o : Option ℕ) → place_of trail l.variable ≡ o → StandsTrue trail l ⊎ (StandsFalse trail l ⊎ StandsFree trail l)
    by_place None at =
        let signless : sign_of trail l.variable ≡ None = none_is (sign_of trail l.variable) (sym (place_of-is_none trail l.variable) ∙ ap is_none at) in
        inr (inr (record {
          at = at;
          value = ap (λ o. value_by o l.positive) signless;
          standing = ap (λ o. standing_by o (is_true trail l)) at;
        }))
    by_place (Some place) at =
        let there = place_of-entry trail l.variable place at in
        by_sign place there.entry.lit.positive (beq there.entry.lit.positive l.positive) there.within at there.sign refl

-- what is read of a standing below 2^30, at 2^30, and from 2^31 on
value_low : (standing : ℕ) → standing < 2 ^ 30 → value_by_standing standing ≡ True
value_low standing below = ap (λ b. cond b True (cond (nat_lt standing (2 ^ 31)) Free False)) (lt-ltb standing (2 ^ 30) below)

value_high : (standing : ℕ) → 2 ^ 31 ≤ standing → value_by_standing standing ≡ False
value_high standing above =
    ap (λ b. cond b True (cond (nat_lt standing (2 ^ 31)) Free False)) (le-ltb standing (2 ^ 30) (omega arith))
    ∙ ap (λ b. cond b Free False) (le-ltb standing (2 ^ 31) above)

place_low : (standing : ℕ) → standing < 2 ^ 30 → place_by_standing standing ≡ Some standing
place_low standing below = ap (λ b. cond b (Some standing) (cond (nat_lt standing (2 ^ 31)) None (Some (standing - 2 ^ 31)))) (lt-ltb standing (2 ^ 30) below)

place_high : (standing place : ℕ) → standing ≡ 2 ^ 31 + place → place_by_standing standing ≡ Some place
place_high standing place is =
    let rest : standing - 2 ^ 31 ≡ place = omega arith in
    ap (λ b. cond b (Some standing) (cond (nat_lt standing (2 ^ 31)) None (Some (standing - 2 ^ 31)))) (le-ltb standing (2 ^ 30) (omega arith))
    ∙ (ap (λ b. cond b None (Some (standing - 2 ^ 31))) (le-ltb standing (2 ^ 31) (omega arith)) ∙ ap Some rest)

-- the value of a literal is read of its standing, and so is the place of its variable
pub value_read : (trail : List Entry) (l : Literal) → length trail ≤ 1000000 → value_by_standing (standing_of trail l) ≡ trail_value trail l
value_read trail l few = elim (stands trail l) [
  | inl holds ↦ value_low (standing_of trail l) (omega (arith, holds.standing, holds.within)) ∙ sym holds.value
  | inr (inl fails) ↦ value_high (standing_of trail l) (omega (arith, fails.standing)) ∙ sym fails.value
  | inr (inr free) ↦ ap value_by_standing free.standing ∙ sym free.value
]

pub place_read : (trail : List Entry) (l : Literal) → length trail ≤ 1000000 → place_by_standing (standing_of trail l) ≡ place_of trail l.variable
place_read trail l few = elim (stands trail l) [
  | inl holds ↦ place_low (standing_of trail l) (omega (arith, holds.standing, holds.within)) ∙ (ap Some holds.standing ∙ sym holds.at)
  | inr (inl fails) ↦ place_high (standing_of trail l) fails.place fails.standing ∙ sym fails.at
  | inr (inr free) ↦ ap place_by_standing free.standing ∙ sym free.at
]
