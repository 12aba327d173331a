-- What the standing of a literal tells of its value and of its variable's place.
use Rattle.std.proofs.Common.{◌≡◌, inl, inr, ℕ, ◌%◌, ◌^◌, ◌<◌, ◌≤◌, ◌&&◌, true, false, List, length, ap, ◌∙◌, sym, arith}
use Rattle.std.specs.Prelude.{nat_lt}
use Rattle.std.proofs.lemmas.Bool.{le-ltb}
use Rattle.lit_base.specs.Literal.{Literal}
use Rattle.lit_base.specs.declared.trail.Entry.{Entry}
use Rattle.lit_base.specs.Trail.{is_true, is_true_value}
use Rattle.trail_book.specs.TrailState.{standing_of}
use Rattle.trail_book.proofs.Standings.{stands}
use Rattle.round_prop.specs.Linked.{or_zero, place_in}

-- the place is what is left of the standing by 2^30
pub place_in-standing : (trail : List Entry) (l : Literal) → length trail ≤ 1000000 → standing_of trail l % 2 ^ 30 ≡ place_in trail l
place_in-standing trail l few = elim (stands trail l) [
  | inl s ↦ (let e : standing_of trail l % 2 ^ 30 ≡ s.place = omega (arith, s.within, s.standing) in e) ∙ sym (ap or_zero s.at)
  | inr (inl s) ↦ (let e : standing_of trail l % 2 ^ 30 ≡ s.place = omega (arith, s.within, s.standing) in e) ∙ sym (ap or_zero s.at)
  | inr (inr s) ↦ ap (λ n. n % 2 ^ 30) s.standing ∙ sym (ap or_zero s.at)
]

-- a place is less than a trail has entries, or 0
place_in-few : (trail : List Entry) (l : Literal) → length trail ≤ 1000000 → place_in trail l ≤ 1000000
place_in-few trail l few = elim (stands trail l) [
  | inl s ↦ let at = ap or_zero s.at in omega (arith, at, s.within)
  | inr (inl s) ↦ let at = ap or_zero s.at in omega (arith, at, s.within)
  | inr (inr s) ↦ let at = ap or_zero s.at in omega (arith, at)
]

-- only a true literal has a standing below a place
pub true_before-standing : (trail : List Entry) (l other : Literal) → length trail ≤ 1000000 →
    nat_lt (standing_of trail l) (place_in trail other) ≡ (is_true trail l && nat_lt (place_in trail l) (place_in trail other))
true_before-standing trail l other few = elim (stands trail l) [
  | inl s ↦ ap (λ n. nat_lt n (place_in trail other)) (s.standing ∙ sym (ap or_zero s.at)) ∙ sym (ap (λ v. is_true_value v && nat_lt (place_in trail l) (place_in trail other)) s.value)
  | inr (inl s) ↦ le-ltb (standing_of trail l) (place_in trail other) (omega (arith, s.standing, place_in-few trail other few)) ∙ sym (ap (λ v. is_true_value v && nat_lt (place_in trail l) (place_in trail other)) s.value)
  | inr (inr s) ↦ le-ltb (standing_of trail l) (place_in trail other) (omega (arith, s.standing, place_in-few trail other few)) ∙ sym (ap (λ v. is_true_value v && nat_lt (place_in trail l) (place_in trail other)) s.value)
]

pub below_holds : (p q : ℕ) → p < q → nat_lt p q ≡ true
below_holds p q is = grind arith

pub above_holds : (p q : ℕ) → q ≤ p → nat_lt p q ≡ false
above_holds p q is = grind arith

-- a literal whose standing is below the place of another is true, and was before
pub true_before : (trail : List Entry) (l other : Literal) (standing since : ℕ) → length trail ≤ 1000000 → standing ≡ standing_of trail l → since ≡ place_in trail other → standing < since →
    (is_true trail l && nat_lt (place_in trail l) (place_in trail other)) ≡ true
true_before trail l other standing since few standing_is since_is below =
    sym (true_before-standing trail l other few) ∙ (sym (ap (λ n. nat_lt n (place_in trail other)) standing_is) ∙ (sym (ap (λ p. nat_lt standing p) since_is) ∙ below_holds standing since below))

-- which of two places is the lesser
pub is_before : (p q place since : ℕ) → since ≡ p → place ≡ q → since < place → nat_lt p q ≡ true
is_before p q place since since_is place_is below = sym (ap (λ n. nat_lt n q) since_is) ∙ (sym (ap (λ n. nat_lt since n) place_is) ∙ below_holds since place below)

pub is_not_before : (p q place since : ℕ) → since ≡ p → place ≡ q → place ≤ since → nat_lt p q ≡ false
is_not_before p q place since since_is place_is above = sym (ap (λ n. nat_lt n q) since_is) ∙ (sym (ap (λ n. nat_lt since n) place_is) ∙ above_holds since place above)
