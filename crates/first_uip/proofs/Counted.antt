-- Counts of the flagged entries that are still to be met.
use Rattle.std.proofs.Common.{◌≡◌, ℕ, ◌==◌, ◌+◌, ◌-◌, ◌≤◌, ◌<◌, Bool, true, false, cond, ◌&&◌, ◌||◌, List, [], ◌∷◌, length, refl, ap, ◌∙◌, sym, subst, arith}
use Rattle.std.specs.Prelude.{Some, nat_lt}
use Rattle.std.proofs.lemmas.Bool.{lt-ltb, eqb-true, eqb-false, eq-eqb, ne_eqb, cond-true}
use Rattle.std.proofs.lemmas.List.{drop_all}
use Rattle.std.proofs.lemmas.List.Sums.{sum_by-cons, count_by-le-length}
use Rattle.lit_base.specs.declared.trail.Entry.{Entry}
use Rattle.lit_base.specs.Trail.{level_of, is_free}
use Rattle.lit_base.specs.Fits.{HasDistinctVariables}
use Rattle.lit_base.specs.Analysis.{is_other_left}
use Rattle.first_uip.specs.Marks.{is_flagged, AreFlagsOf, flagged_count, this_level, one_if, AreListed, IsCounted, AreClear}
use Rattle.first_uip.specs.declared.marks.Marks.{Marks}
use Rattle.first_uip.specs.Places.{before}
use Rattle.first_uip.proofs.Placed.{level_of-free}
use Rattle.first_uip.proofs.Listed.{listed_clear, listed_same}

-- one where both tests pass
abbrev one_where : Bool → Bool → ℕ
one_where a b = cond (a && b) 1 0

one_where-true : (a b : Bool) → b ≡ true → one_where a b ≡ cond a 1 0
one_where-true true b is = ap (λ t. one_where true t) is
one_where-true false b is = refl

one_where-false : (a b : Bool) → b ≡ false → one_where a b ≡ 0
one_where-false true b is = ap (λ t. one_where true t) is
one_where-false false b is = refl

-- one for a flagged entry whose level passes
abbrev one_for : (ℕ → Bool) → List Bool → Entry → ℕ
one_for test flags e = one_where (test e.level) (is_flagged flags e.lit.variable)

pub flagged_count-cons : (test : ℕ → Bool) (flags : List Bool) (e : Entry) (older : List Entry) → flagged_count test flags (e ∷ older) ≡ one_for test flags e + flagged_count test flags older
flagged_count-cons test flags e older = sum_by-cons (one_for test flags) e older

-- there are at most as many as entries
pub flagged_count-le : (test : ℕ → Bool) (flags : List Bool) (rest : List Entry) → flagged_count test flags rest ≤ length rest
flagged_count-le test flags rest = count_by-le-length (λ e. test e.level && is_flagged flags e.lit.variable) rest

-- no flag is set, so none counts
pub flagged_count-clear : (test : ℕ → Bool) (flags : List Bool) (rest : List Entry) → ((v : ℕ) → is_flagged flags v ≡ false) → flagged_count test flags rest ≡ 0
flagged_count-clear test flags [] clear = refl
flagged_count-clear test flags (e ∷ older) clear =
    omega (
      arith,
      flagged_count-cons test flags e older,
      one_where-false (test e.level) (is_flagged flags e.lit.variable) (clear e.lit.variable),
      flagged_count-clear test flags older clear,
    )

-- one more flag, of a variable whose flag wasn't set: its entry counts, if it is among these and its level passes
pub flagged_count-more : (test : ℕ → Bool) (flags after : List Bool) (v : ℕ) (rest : List Entry) → HasDistinctVariables rest →
    ((w : ℕ) → is_flagged after w ≡ ((v == w) || is_flagged flags w)) → is_flagged flags v ≡ false →
    flagged_count test after rest ≡ flagged_count test flags rest + one_if test (level_of rest v)
flagged_count-more test flags after v [] distinct one unset = refl
flagged_count-more test flags after v (e ∷ older) distinct one unset =
    by_test (e.lit.variable == v) refl (flagged_count-more test flags after v older distinct.1 one unset)
  where
    by_test : (b : Bool) → (e.lit.variable == v) ≡ b → flagged_count test after older ≡ flagged_count test flags older + one_if test (level_of older v) →
        flagged_count test after (e ∷ older) ≡ flagged_count test flags (e ∷ older) + one_if test (cond b (Some e.level) (level_of older v))
    by_test true is rest =
        let here : e.lit.variable ≡ v = eqb-true e.lit.variable v is in
        let set_now : is_flagged after e.lit.variable ≡ true = one e.lit.variable ∙ ap (λ b. b || is_flagged flags e.lit.variable) (eq-eqb v e.lit.variable (sym here)) in
        let was_not : is_flagged flags e.lit.variable ≡ false = ap (is_flagged flags) here ∙ unset in
        let none : one_if test (level_of older v) ≡ 0 = ap (one_if test) (level_of-free v older (subst (λ w. is_free older w ≡ true) here distinct.0)) in
        omega (
          arith,
          flagged_count-cons test after e older,
          flagged_count-cons test flags e older,
          rest,
          one_where-true (test e.level) (is_flagged after e.lit.variable) set_now,
          one_where-false (test e.level) (is_flagged flags e.lit.variable) was_not,
        )
    by_test false is rest =
        let other : (v == e.lit.variable) ≡ false = ne_eqb v e.lit.variable (λ same. eqb-false e.lit.variable v is (sym same)) in
        let as_before : one_for test after e ≡ one_for test flags e = ap (one_where (test e.level)) (one e.lit.variable ∙ ap (λ b. b || is_flagged flags e.lit.variable) other) in
        omega (arith, flagged_count-cons test after e older, flagged_count-cons test flags e older, rest)

-- nothing is counted where nothing is marked
pub counted_clear : (n level : ℕ) (rest : List Entry) (m : Marks) → AreClear n m → IsCounted level rest m
counted_clear n level rest m clear = record {
  of_level = clear.left ∙ sym (flagged_count-clear (this_level level) m.flags.items rest clear.unset);
  listed = listed_clear n m clear;
}

-- marks with one flag more, and one more in the count where its entry is among these
pub counted_more : (level v : ℕ) (rest : List Entry) (m after : Marks) → HasDistinctVariables rest → ((w : ℕ) → is_flagged after.flags.items w ≡ ((v == w) || is_flagged m.flags.items w)) →
    is_flagged m.flags.items v ≡ false → after.left ≡ m.left + one_if (this_level level) (level_of rest v) → AreListed after → IsCounted level rest m → IsCounted level rest after
counted_more level v rest m after distinct one unset left listed counted = record {
  of_level = omega (arith, left, counted.of_level, flagged_count-more (this_level level) m.flags.items after.flags.items v rest distinct one unset);
  listed = listed;
}

-- what a test of the flag says of the entry
pub flag_at : (flags : List Bool) (e : Entry) (v : ℕ) (answer is : Bool) → v ≡ e.lit.variable → answer ≡ is_flagged flags v → answer ≡ is → is_flagged flags e.lit.variable ≡ is
flag_at flags e v answer is same tested known = ap (is_flagged flags) (sym same) ∙ (sym tested ∙ known)

-- an entry without a flag doesn't count
pub counted_passed : (level : ℕ) (e : Entry) (older : List Entry) (m : Marks) → is_flagged m.flags.items e.lit.variable ≡ false → IsCounted level (e ∷ older) m → IsCounted level older m
counted_passed level e older m unset counted = record {
  of_level = omega (
    arith,
    counted.of_level,
    flagged_count-cons (this_level level) m.flags.items e older,
    one_where-false (this_level level e.level) (is_flagged m.flags.items e.lit.variable) unset,
  );
  listed = counted.listed;
}

-- a flagged entry of the level counts
pub counted_some : (level : ℕ) (e : Entry) (older : List Entry) (m : Marks) → is_flagged m.flags.items e.lit.variable ≡ true → IsCounted level (e ∷ older) m → e.level ≡ level → 0 < m.left
counted_some level e older m is_set counted here =
    omega (
      arith,
      counted.of_level,
      flagged_count-cons (this_level level) m.flags.items e older,
      one_where-true (this_level level e.level) (is_flagged m.flags.items e.lit.variable) is_set,
      cond-true {A = ℕ} (e.level == level) 1 0 (eq-eqb e.level level here),
    )

-- once it is taken out of the count, that is the count of the older entries
pub counted_met : (level : ℕ) (e : Entry) (older : List Entry) (m after : Marks) → is_flagged m.flags.items e.lit.variable ≡ true → after.flags ≡ m.flags → after.marked ≡ m.marked →
    after.left + cond (e.level == level) 1 0 ≡ m.left → IsCounted level (e ∷ older) m → IsCounted level older after
counted_met level e older m after is_set same marked left counted =
    let items = ap (λ flags. flags.items) (sym same) in
    let of_level : after.left ≡ flagged_count (this_level level) m.flags.items older =
    omega (
      arith,
      left,
      counted.of_level,
      flagged_count-cons (this_level level) m.flags.items e older,
      one_where-true (this_level level e.level) (is_flagged m.flags.items e.lit.variable) is_set,
    ) in
    record { of_level = of_level ∙ ap (λ flags. flagged_count (this_level level) flags older) items; listed = listed_same m after same marked counted.listed }

-- none counts before the oldest entry
pub counted_none : (level place : ℕ) (trail : List Entry) (m : Marks) → place ≡ 0 → IsCounted level (before place trail) m → m.left ≡ 0
counted_none level place trail m is counted =
    let past : length trail ≤ length trail - place = omega arith in
    counted.of_level ∙ ap (flagged_count (this_level level) m.flags.items) (drop_all (length trail - place) trail past)

-- whether another is left is whether the count is above none
pub left_by_count : (level : ℕ) (flags : List Bool) (marked : List ℕ) (rest : List Entry) → AreFlagsOf marked flags → nat_lt 0 (flagged_count (this_level level) flags rest) ≡ is_other_left level marked rest
left_by_count level flags marked [] are = refl
left_by_count level flags marked (e ∷ older) are =
    ap (λ n. nat_lt 0 n) (flagged_count-cons (this_level level) flags e older)
    ∙ (by_test ((e.level == level) && is_flagged flags e.lit.variable) (flagged_count (this_level level) flags older)
    ∙ (ap (λ b. ((e.level == level) && is_flagged flags e.lit.variable) || b) (left_by_count level flags marked older are)
    ∙ ap (λ b. ((e.level == level) && b) || is_other_left level marked older) (are e.lit.variable)))
  where
    by_test : (b : Bool) (n : ℕ) → nat_lt 0 (cond b 1 0 + n) ≡ (b || nat_lt 0 n)
    by_test true n = lt-ltb 0 (1 + n) (omega arith)
    by_test false n = ap (λ m. nat_lt 0 m) (omega arith)
