-- The first links of a clause: two of its literals, each chosen beside another.
use Rattle.std.proofs.Common.{◌≡◌, ◌⊎◌, ℕ, Bool, true, false, ◌&&◌, ◌||◌, List, [], ◌∷◌, length, refl, inl, inr, ap, sym, ◌∙◌, subst, arith}
use Rattle.std.specs.Prelude.{nat_lt, nat_le}
use Rattle.std.specs.List.{list_all}
use Rattle.std.proofs.lemmas.Bool.{cases_Bool}
use Rattle.lit_base.specs.Literal.{Literal, same}
use Rattle.lit_base.specs.Trail.{is_false}
use Rattle.lit_base.specs.Fits.{HasDistinctVariables, IsImplied}
use Rattle.lit_base.specs.Quiet.{IsOneOf}
use Rattle.lit_base.specs.declared.trail.Entry.{Entry}
use Rattle.lit_base.proofs.DistinctLits.{same-true}
use Rattle.lit_base.proofs.Known.{all_at, all_when, same_itself}
use Rattle.round_prop.specs.Linked.{IsPart, IsPair, IsFine, IsLinked, AreOthersFalse, AreAllBut, IsLatest, IsBeside, place_in}
use Rattle.round_prop.proofs.LinkSteps.{not_both}
use Rattle.round_prop.proofs.OlderParts.{part_extends, not_false_before, false_at}

or_first : (a b : Bool) → b ≡ false → (a || b) ≡ true → a ≡ true
or_first true b is either = refl
or_first false b is either = absurd (not_both b either is)

or_second : (a b : Bool) → a ≡ false → (a || b) ≡ true → b ≡ true
or_second true b is either = cc
or_second false b is either = either

or_left : (a b : Bool) → a ≡ true → (a || b) ≡ true
or_left a b is = ap (λ c. c || b) is

or_right : (a b : Bool) → b ≡ true → (a || b) ≡ true
or_right true b is = refl
or_right false b is = is

both_all : (ls : List Literal) (p q r : Literal → Bool) → ((m : Literal) → p m ≡ true → q m ≡ true → r m ≡ true) → list_all p ls ≡ true → list_all q ls ≡ true → list_all r ls ≡ true
both_all [] p q r gives one two = refl
both_all (m ∷ later) p q r gives one two =
    and_both (r m) (list_all r later) (gives m (and_first (p m) (list_all p later) one) (and_first (q m) (list_all q later) two))
    (both_all later p q r gives (and_second (p m) (list_all p later) one) (and_second (q m) (list_all q later) two))
  where
    and_first : (a b : Bool) → (a && b) ≡ true → a ≡ true
    and_first true b is = refl
    and_first false b is = cc

    and_second : (a b : Bool) → (a && b) ≡ true → b ≡ true
    and_second true b is = is
    and_second false b is = cc

    and_both : (a b : Bool) → a ≡ true → b ≡ true → (a && b) ≡ true
    and_both a b one two = ap (λ x. x && b) one ∙ two

-- where the latest is false, all are
latest_at : (trail part : List Entry) (lits : List Literal) (other last : Literal) → HasDistinctVariables trail → IsPart trail part → AreAllBut trail other lits → IsLatest trail lits other last → is_false part last ≡ true → AreAllBut part other lits
latest_at trail part lits other last distinct inside all latest lost =
    both_all lits (λ m. same m other || nat_le (place_in trail m) (place_in trail last)) (λ m. is_false trail m || same m other) (λ m. is_false part m || same m other)
    (λ m. each m (cases_Bool (same m other))) latest.latest all
  where
    last_lost : is_false trail last ≡ true
    last_lost = or_first (is_false trail last) (same last other) latest.apart (all_at (λ m. is_false trail m || same m other) lits last all latest.held)

    within : (m q n : ℕ) → nat_le m q ≡ true → nat_lt q n ≡ true → nat_lt m n ≡ true
    within m q n le less = grind arith

    each : (m : Literal) → (same m other ≡ true) ⊎ (same m other ≡ false) → (same m other || nat_le (place_in trail m) (place_in trail last)) ≡ true → (is_false trail m || same m other) ≡ true → (is_false part m || same m other) ≡ true
    each m (inl is) le but = or_right (is_false part m) (same m other) is
    each m (inr apart) le but =
        or_left (is_false part m) (same m other)
        (false_at trail part m distinct inside (or_first (is_false trail m) (same m other) apart but)
        ∙ within (place_in trail m) (place_in trail last) (length part) (or_second (same m other) (nat_le (place_in trail m) (place_in trail last)) apart le)
        (sym (false_at trail part last distinct inside last_lost) ∙ lost))

-- all but one are all but two
all_but_two : (part : List Entry) (lits : List Literal) (x a b : Literal) → (x ≡ a) ⊎ (x ≡ b) → AreAllBut part x lits → AreOthersFalse part lits a b
all_but_two part lits x a b which all = all_when (λ m. is_false part m || same m x) (λ m. is_false part m || (same m a || same m b)) (λ m passes. by_value m which (cases_Bool (is_false part m)) passes) lits all
  where
    by_value : (m : Literal) → (x ≡ a) ⊎ (x ≡ b) → (is_false part m ≡ true) ⊎ (is_false part m ≡ false) → (is_false part m || same m x) ≡ true → (is_false part m || (same m a || same m b)) ≡ true
    by_value m side (inl lost) passes = or_left (is_false part m) (same m a || same m b) lost
    by_value m (inl is) (inr lives) passes =
        or_right (is_false part m) (same m a || same m b) (or_left (same m a) (same m b) (subst (λ k. same m k ≡ true) is (or_second (is_false part m) (same m x) lives passes)))
    by_value m (inr is) (inr lives) passes =
        or_right (is_false part m) (same m a || same m b) (or_right (same m a) (same m b) (subst (λ k. same m k ≡ true) is (or_second (is_false part m) (same m x) lives passes)))

-- the other way round
pub apart_swap : (a b : Literal) → same a b ≡ false → same b a ≡ false
apart_swap a b apart = by_test (same b a) refl
  where
    by_test : (s : Bool) → same b a ≡ s → s ≡ false
    by_test true is = absurd (not_both (same a b) (subst (λ m. same a m ≡ true) (sym (same-true b a is)) (same_itself a)) apart)
    by_test false is = refl

module _ (trail : List Entry) (lits : List Literal) (x a b : Literal) (distinct : HasDistinctVariables trail) (held : IsOneOf lits x) (one : IsBeside trail lits x a) (two : IsBeside trail lits a b) where
  pub first_pair : IsPair lits a b
  first_pair = record { first = one.held; second = two.held; apart = apart_swap b a two.apart }

  alive : (part : List Entry) (m : Literal) → IsPart trail part → is_false trail m ≡ false → is_false part m ≡ false
  alive part m inside = not_false_before trail part m (part_extends trail part distinct inside)

  -- where the second is false all others but the first are
  pub first_noted : is_false trail b ≡ true → IsImplied trail a lits
  first_noted lost = by_case two.choice
    where
      by_case : (is_false trail b ≡ false) ⊎ (AreAllBut trail a lits × IsLatest trail lits a b) → IsImplied trail a lits
      by_case (inl lives) = absurd (not_both (is_false trail b) lost lives)
      by_case (inr (all, latest)) = record { held = one.held; others = all }

  -- where the first alone is false all others but the second are
  second_is : is_false trail a ≡ true → is_false trail b ≡ false → AreAllBut trail b lits × IsLatest trail lits b a
  second_is lost lives = by_case one.choice
    where
      by_case : (is_false trail a ≡ false) ⊎ (AreAllBut trail x lits × IsLatest trail lits x a) → AreAllBut trail b lits × IsLatest trail lits b a
      by_case (inl alive_too) = absurd (not_both (is_false trail a) lost alive_too)
      by_case (inr (all, latest)) =
          let is : b ≡ x = same-true b x (or_second (is_false trail b) (same b x) lives (all_at (λ m. is_false trail m || same m x) lits b all two.held)) in
          (subst (λ k. AreAllBut trail k lits) (sym is) all, subst (λ k. IsLatest trail lits k a) (sym is) latest)

  pub second_noted : is_false trail a ≡ true → is_false trail b ≡ false → IsImplied trail b lits
  second_noted lost lives = record { held = two.held; others = (second_is lost lives).0 }

  pub first_linked : IsLinked trail lits a b
  first_linked part inside = by_values (cases_Bool (is_false trail a)) (cases_Bool (is_false trail b)) (cases_Bool (is_false part a)) (cases_Bool (is_false part b))
    where
      by_both : (is_false trail a ≡ true) → (is_false trail b ≡ true) → is_false part a ≡ true → is_false part b ≡ false → IsFine part lits a b
      by_both lost lost_too gone yet = by_choices one.choice two.choice
        where
          le_trans : (p q n : ℕ) → nat_le p q ≡ true → nat_lt q n ≡ true → nat_lt p n ≡ true
          le_trans p q n le less = grind arith

          by_choices : (is_false trail a ≡ false) ⊎ (AreAllBut trail x lits × IsLatest trail lits x a) → (is_false trail b ≡ false) ⊎ (AreAllBut trail a lits × IsLatest trail lits a b) → IsFine part lits a b
          by_choices (inl lives) second = absurd (not_both (is_false trail a) lost lives)
          by_choices (inr first) (inl lives) = absurd (not_both (is_false trail b) lost_too lives)
          by_choices (inr (all, latest)) (inr (all_too, latest_too)) = inr (all_but_two part lits x a b (inr (by_x (cases_Bool (same b x)))) (latest_at trail part lits x a distinct inside all latest gone))
            where
              by_x : (same b x ≡ true) ⊎ (same b x ≡ false) → x ≡ b
              by_x (inl is) = sym (same-true b x is)
              by_x (inr apart) =
                  let place : nat_le (place_in trail b) (place_in trail a) ≡ true = or_second (same b x) (nat_le (place_in trail b) (place_in trail a)) apart (all_at (λ m. same m x || nat_le (place_in trail m) (place_in trail a)) lits b latest.latest two.held) in
                  let gone_too : is_false part b ≡ true = false_at trail part b distinct inside lost_too ∙ le_trans (place_in trail b) (place_in trail a) (length part) place (sym (false_at trail part a distinct inside lost) ∙ gone) in
                  absurd (not_both (is_false part b) gone_too yet)

      by_second : is_false trail b ≡ true → is_false part b ≡ true → IsFine part lits a b
      by_second lost gone = by_choice two.choice
        where
          by_choice : (is_false trail b ≡ false) ⊎ (AreAllBut trail a lits × IsLatest trail lits a b) → IsFine part lits a b
          by_choice (inl lives) = absurd (not_both (is_false trail b) lost lives)
          by_choice (inr (all, latest)) = inr (all_but_two part lits a a b (inl refl) (latest_at trail part lits a b distinct inside all latest gone))

      by_values : (is_false trail a ≡ true) ⊎ (is_false trail a ≡ false) → (is_false trail b ≡ true) ⊎ (is_false trail b ≡ false) → (is_false part a ≡ true) ⊎ (is_false part a ≡ false) → (is_false part b ≡ true) ⊎ (is_false part b ≡ false) →
          IsFine part lits a b
      by_values first (inl lost_b) third (inl gone_b) = by_second lost_b gone_b
      by_values (inl lost_a) (inl lost_b) (inl gone_a) (inr yet_b) = by_both lost_a lost_b gone_a yet_b
      by_values first second (inr yet_a) (inr yet_b) = inl (inr (inr (yet_a, yet_b)))
      by_values (inr lives_a) (inl lost_b) (inl gone_a) (inr yet_b) = absurd (not_both (is_false part a) gone_a (alive part a inside lives_a))
      by_values (inr lives_a) (inr lives_b) (inl gone_a) fourth = absurd (not_both (is_false part a) gone_a (alive part a inside lives_a))
      by_values first (inr lives_b) third (inl gone_b) = absurd (not_both (is_false part b) gone_b (alive part b inside lives_b))
      by_values (inl lost_a) (inr lives_b) (inl gone_a) (inr yet_b) =
          let choice = second_is lost_a lives_b in inr (all_but_two part lits b a b (inr refl) (latest_at trail part lits b a distinct inside choice.0 choice.1 gone_a))
