-- What the standings of literals tell: their values, and which of two was assigned before the other.
use Rattle.std.proofs.Common.{◌≡◌, inl, inr, ℕ, ◌^◌, ◌==◌, ◌<◌, ◌≤◌, Bool, true, false, cond, List, [], ◌∷◌, ◌++◌, length, refl, ap, ◌∙◌, sym, subst, arith}
use Rattle.std.specs.Prelude.{Some, is_none, nat_le, nat_lt}
use Rattle.std.proofs.lemmas.Bool.{eqb-true, both_ways, lt-ltb, le-ltb, lt-leb, le-leb}
use Rattle.lit_base.specs.Literal.{Literal}
use Rattle.lit_base.specs.declared.trail.Entry.{Entry}
use Rattle.lit_base.specs.Trail.{sign_of, is_true_value, is_false_value, is_true, is_false, is_free}
use Rattle.lit_base.specs.Fits.{HasDistinctVariables}
use Rattle.trail_book.specs.TrailState.{TrailState, IsTrail, place_of, standing_of}
use Rattle.trail_book.specs.Laws.{IsAssignedBefore, TellValues, TellOrder}
use Rattle.trail_book.proofs.Places.{place_of-entry, place_of-is_none}
use Rattle.trail_book.proofs.Standings.{StandsTrue, StandsFalse, stands}

-- a literal that is true has the standing of one, and one that is false
pub true_stands : (trail : List Entry) (l : Literal) → is_true trail l ≡ true → StandsTrue trail l
true_stands trail l is = elim (stands trail l) [
  | inl holds ↦ holds
  | inr (inl fails) ↦ absurd (both_ways (is_true trail l) (ap is_true_value fails.value) is)
  | inr (inr free) ↦ absurd (both_ways (is_true trail l) (ap is_true_value free.value) is)
]

pub false_stands : (trail : List Entry) (l : Literal) → is_false trail l ≡ true → StandsFalse trail l
false_stands trail l is = elim (stands trail l) [
  | inl holds ↦ absurd (both_ways (is_false trail l) (ap is_false_value holds.value) is)
  | inr (inl fails) ↦ fails
  | inr (inr free) ↦ absurd (both_ways (is_false trail l) (ap is_false_value free.value) is)
]

-- the tests of a literal's value, by its standing
pub is_true-standing : (trail : List Entry) (l : Literal) → length trail ≤ 1000000 → is_true trail l ≡ nat_lt (standing_of trail l) (2 ^ 30)
is_true-standing trail l few = elim (stands trail l) [
  | inl s ↦ ap is_true_value s.value ∙ sym (lt-ltb (standing_of trail l) (2 ^ 30) (omega (arith, s.within, s.standing)))
  | inr (inl s) ↦ ap is_true_value s.value ∙ sym (le-ltb (standing_of trail l) (2 ^ 30) (omega (arith, s.standing)))
  | inr (inr s) ↦ ap is_true_value s.value ∙ sym (le-ltb (standing_of trail l) (2 ^ 30) (omega (arith, s.standing)))
]

pub is_false-standing : (trail : List Entry) (l : Literal) → length trail ≤ 1000000 → is_false trail l ≡ nat_le (2 ^ 31) (standing_of trail l)
is_false-standing trail l few = elim (stands trail l) [
  | inl s ↦ ap is_false_value s.value ∙ sym (lt-leb (2 ^ 31) (standing_of trail l) (omega (arith, s.within, s.standing)))
  | inr (inl s) ↦ ap is_false_value s.value ∙ sym (le-leb (2 ^ 31) (standing_of trail l) (omega (arith, s.standing)))
  | inr (inr s) ↦ ap is_false_value s.value ∙ sym (lt-leb (2 ^ 31) (standing_of trail l) (omega (arith, s.standing)))
]

pub tell_values : (t : TrailState) → IsTrail t → TellValues t.entries
tell_values t trail =
    let few = trail.few in
    record {
      holds = λ l. elim (stands t.entries l) [
        | inl s ↦ (λ is. omega (arith, few, s.within, s.standing), λ below. ap is_true_value s.value)
        | inr (inl s) ↦ (λ is. absurd (both_ways (is_true t.entries l) (ap is_true_value s.value) is), λ below. absurd (omega (arith, below, s.standing)))
        | inr (inr s) ↦ (λ is. absurd (both_ways (is_true t.entries l) (ap is_true_value s.value) is), λ below. absurd (omega (arith, below, s.standing)))
      ];
      free = λ l. elim (stands t.entries l) [
        | inl s ↦ (λ is. absurd (both_ways (is_free t.entries l.variable) (sym (place_of-is_none t.entries l.variable) ∙ ap is_none s.at) is), λ stands. absurd (omega (arith, stands, few, s.within, s.standing)))
        | inr (inl s) ↦ (λ is. absurd (both_ways (is_free t.entries l.variable) (sym (place_of-is_none t.entries l.variable) ∙ ap is_none s.at) is), λ stands. absurd (omega (arith, stands, s.standing)))
        | inr (inr s) ↦ (λ is. s.standing, λ stands. sym (place_of-is_none t.entries l.variable) ∙ ap is_none s.at)
      ];
      fails = λ l. elim (stands t.entries l) [
        | inl s ↦ (λ is. absurd (both_ways (is_false t.entries l) (ap is_false_value s.value) is), λ above. absurd (omega (arith, above, few, s.within, s.standing)))
        | inr (inl s) ↦ (λ is. omega (arith, s.standing), λ above. ap is_false_value s.value)
        | inr (inr s) ↦ (λ is. absurd (both_ways (is_false t.entries l) (ap is_false_value s.value) is), λ above. absurd (omega (arith, above, s.standing)))
      ];
    }

-- what has a value on an older part has one on the whole
still_assigned : (newer older : List Entry) (v : ℕ) → is_free older v ≡ false → is_free (newer ++ older) v ≡ false
still_assigned [] older v is = is
still_assigned (e ∷ newer) older v is = by_test (e.lit.variable == v) (still_assigned newer older v is)
  where
    by_test : (b : Bool) → is_free (newer ++ older) v ≡ false → is_none (cond b (Some e.lit.positive) (sign_of (newer ++ older) v)) ≡ false
    by_test true rest = refl
    by_test false rest = rest

-- the variable that was assigned before has the lesser place
lesser_place : (newer older : List Entry) (v w p q : ℕ) → HasDistinctVariables (newer ++ older) → is_free older v ≡ false → is_free older w ≡ true →
    place_of (newer ++ older) v ≡ Some p → place_of (newer ++ older) w ≡ Some q → p < q
lesser_place [] older v w p q distinct assigned free at_v at_w = absurd (both_ways (is_free older w) (sym (place_of-is_none older w) ∙ ap is_none at_w) free)
lesser_place (e ∷ newer) older v w p q distinct assigned free at_v at_w =
    by_first (e.lit.variable == v) refl at_v (λ there again. lesser_place newer older v w p q distinct.1 assigned free there again)
  where
    by_second : (b : Bool) → place_of (newer ++ older) v ≡ Some p → cond b (Some (length (newer ++ older))) (place_of (newer ++ older) w) ≡ Some q →
        (place_of (newer ++ older) v ≡ Some p → place_of (newer ++ older) w ≡ Some q → p < q) → p < q
    by_second true there at rest =
        let is : length (newer ++ older) ≡ q = cc in
        omega (arith, (place_of-entry (newer ++ older) v p there).within)
    by_second false there at rest = rest there at

    by_first : (b : Bool) → (e.lit.variable == v) ≡ b → cond b (Some (length (newer ++ older))) (place_of (newer ++ older) v) ≡ Some p →
        (place_of (newer ++ older) v ≡ Some p → place_of (newer ++ older) w ≡ Some q → p < q) → p < q
    by_first true is at rest =
        let here : e.lit.variable ≡ v = eqb-true _ _ is in
        absurd (both_ways (is_free (newer ++ older) v) (still_assigned newer older v assigned) (subst (λ k. is_free (newer ++ older) k ≡ true) here distinct.0))
    by_first false is at rest = by_second (e.lit.variable == w) at at_w rest

-- and the other way round
assigned_before : (trail : List Entry) (l other : Literal) (p q : ℕ) → HasDistinctVariables trail → place_of trail l.variable ≡ Some p → place_of trail other.variable ≡ Some q → p < q →
    IsAssignedBefore trail l other
assigned_before [] l other p q distinct at_l at_other less = cc
assigned_before (e ∷ older) l other p q distinct at_l at_other less =
    by_tests (e.lit.variable == l.variable) (e.lit.variable == other.variable) refl at_l at_other (λ one two. assigned_before older l other p q distinct.1 one two less)
  where
    by_tests : (a b : Bool) → (e.lit.variable == other.variable) ≡ b → cond a (Some (length older)) (place_of older l.variable) ≡ Some p → cond b (Some (length older)) (place_of older other.variable) ≡ Some q →
        (place_of older l.variable ≡ Some p → place_of older other.variable ≡ Some q → IsAssignedBefore older l other) → IsAssignedBefore (e ∷ older) l other
    by_tests true true is one two rest =
        let same : length older ≡ p = cc in
        let again : length older ≡ q = cc in
        absurd (omega arith)
    by_tests true false is one two rest =
        let same : length older ≡ p = cc in
        absurd (omega (arith, (place_of-entry older other.variable q two).within))
    by_tests false true is one two rest = record {
      newer = e ∷ [];
      older = older;
      parts = refl;
      assigned = sym (place_of-is_none older l.variable) ∙ ap is_none one;
      free = subst (λ k. is_free older k ≡ true) (let here : e.lit.variable ≡ other.variable = eqb-true _ _ is in here) distinct.0;
    }
    by_tests false false is one two rest =
        let before = rest one two in
        record {
          newer = e ∷ before.newer;
          older = before.older;
          parts = ap (λ es. e ∷ es) before.parts;
          assigned = before.assigned;
          free = before.free;
        }

-- the places of two variables that have one, by which was assigned before
before_by_place : (trail : List Entry) (l other : Literal) (p q : ℕ) → HasDistinctVariables trail → place_of trail l.variable ≡ Some p → place_of trail other.variable ≡ Some q →
    IsAssignedBefore trail l other → p < q
before_by_place trail l other p q distinct at_l at_other before =
    lesser_place before.newer before.older l.variable other.variable p q (subst HasDistinctVariables before.parts distinct) before.assigned before.free
    (subst (λ es. place_of es l.variable ≡ Some p) before.parts at_l) (subst (λ es. place_of es other.variable ≡ Some q) before.parts at_other)

pub tell_order : (t : TrailState) → IsTrail t → TellOrder t.entries
tell_order t trail =
    let few = trail.few in
    record {
      older = λ l other is before.
          let s = true_stands t.entries l is in
          elim (stands t.entries other) [
            | inl o ↦ omega (arith, s.standing, o.standing, before_by_place t.entries l other s.place o.place trail.distinct s.at o.at before)
            | inr (inl o) ↦ omega (arith, s.standing, s.within, few, o.standing)
            | inr (inr o) ↦ omega (arith, s.standing, s.within, few, o.standing)
          ];
      earlier = λ l other is too.
          let s = true_stands t.entries l is in
          let o = true_stands t.entries other too in (
            λ less. assigned_before t.entries l other s.place o.place trail.distinct s.at o.at (omega (arith, less, s.standing, o.standing)),
            λ before. omega (arith, s.standing, o.standing, before_by_place t.entries l other s.place o.place trail.distinct s.at o.at before),
          );
      later = λ l other is too.
          let s = false_stands t.entries l is in
          let o = false_stands t.entries other too in (
            λ less. assigned_before t.entries l other s.place o.place trail.distinct s.at o.at (omega (arith, less, s.standing, o.standing)),
            λ before. omega (arith, s.standing, o.standing, before_by_place t.entries l other s.place o.place trail.distinct s.at o.at before),
          );
    }
