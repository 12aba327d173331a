-- The arrays of a trail after an entry came or left.
use Rattle.std.proofs.Common.{◌≡◌, ℕ, ◌==◌, ◌+◌, ◌^◌, ◌<◌, ◌≤◌, Bool, true, false, cond, List, [], ◌∷◌, ◌++◌, length, reverse, get_or, set, refl, ap, ◌∙◌, sym, subst, arith, add-one, length-set, get_or-set_same, get_or-set_other}
use Rattle.std.specs.Prelude.{Option, Some, None}
use Rattle.std.specs.Bool.{beq}
use Rattle.std.proofs.lemmas.Bool.{eqb-true, eqb-false}
use Rattle.std.proofs.lemmas.List.{reverse-append, length-reverse}
use Rattle.lit_base.specs.Literal.{Literal, IsWithin}
use Rattle.lit_base.specs.declared.trail.Entry.{Entry}
use Rattle.lit_base.specs.declared.trail.Value.TheVariants.{True, False}
use Rattle.lit_base.specs.Trail.{sign_of, value_by, is_true_value, is_true, is_free, level_now, level_of}
use Rattle.lit_base.specs.Fits.{IsNextLevel}
use Rattle.trail_book.specs.TrailState.{TrailState, IsTrail, place_of, standing_by, standing_of}
use Rattle.trail_book.specs.Arrays.{standing_at, standing_with, number_by, number_at, AreArraysOf}
use Rattle.trail_book.proofs.Places.{level_of-free, place_of-free}
use Rattle.trail_book.proofs.Holding.{trail_with, trail_without}

-- where a literal stands after an entry came
standing_came : (e l : Literal) (count before : ℕ) (place : Option ℕ) (sign : Option Bool) (b : Bool) → before ≡ standing_by place (is_true_value (value_by sign l.positive)) →
    cond b (cond (beq e.positive l.positive) count (2 ^ 31 + count)) before ≡ standing_by (cond b (Some count) place) (is_true_value (value_by (cond b (Some e.positive) sign) l.positive))
standing_came e l count before place sign true is = by_sign (beq e.positive l.positive)
  where
    by_sign : (b : Bool) → cond b count (2 ^ 31 + count) ≡ standing_by (Some count) (is_true_value (cond b True False))
    by_sign true = refl
    by_sign false = refl
standing_came e l count before place sign false is = is

-- and after an entry of a variable left that is free now
standing_left : (e l : Literal) (count before : ℕ) (older : List Entry) (b : Bool) → (e.variable == l.variable) ≡ b → is_free older e.variable ≡ true →
    before ≡ standing_by (cond b (Some count) (place_of older l.variable)) (is_true_value (value_by (cond b (Some e.positive) (sign_of older l.variable)) l.positive)) →
    cond b (cond (beq e.positive l.positive) (2 ^ 30) (2 ^ 30)) before ≡ standing_of older l
standing_left e l count before older true is free was =
    let here : e.variable ≡ l.variable = eqb-true _ _ is in
    both (beq e.positive l.positive) ∙ sym (ap (λ o. standing_by o (is_true older l)) (place_of-free older l.variable (subst (λ v. is_free older v ≡ true) here free)))
  where
    both : (b : Bool) → cond b (2 ^ 30) (2 ^ 30) ≡ 2 ^ 30
    both true = refl
    both false = refl
standing_left e l count before older false is free was = was

-- what the number of a variable is after one was stored
number_set : (numbers : List ℕ) (var stored v : ℕ) (b : Bool) → (var == v) ≡ b → var < length numbers → number_at (set numbers var stored) v ≡ cond b (number_by stored) (number_at numbers v)
number_set numbers var stored v true is within =
    let here : var ≡ v = eqb-true _ _ is in
    ap number_by (subst (λ k. get_or (set numbers var stored) k 0 ≡ stored) here (get_or-set_same numbers var stored 0 within))
number_set numbers var stored v false is within =
    let other : var ≡ v → ⊥ = eqb-false _ _ is in
    ap number_by (get_or-set_other numbers var v stored 0 (λ same. other (sym same)))

-- the numbers after a variable got one
number_came : (numbers : List ℕ) (var number v : ℕ) (before : Option ℕ) → var < length numbers → number_at numbers v ≡ before →
    number_at (set numbers var (number + 1)) v ≡ cond (var == v) (Some number) before
number_came numbers var number v before within was =
    let stored : number_by (number + 1) ≡ Some number = rw add-one refl in
    number_set numbers var (number + 1) v (var == v) refl within
    ∙ (ap (λ o. cond (var == v) o (number_at numbers v)) stored ∙ ap (λ o. cond (var == v) (Some number) o) was)

-- and after it lost one that it had only once
number_left : (numbers : List ℕ) (var number v : ℕ) (before : Option ℕ) → var < length numbers → (var ≡ v → before ≡ None) → number_at numbers v ≡ cond (var == v) (Some number) before →
    number_at (set numbers var 0) v ≡ before
number_left numbers var number v before within none was = by_test (var == v) refl was
  where
    by_test : (b : Bool) → (var == v) ≡ b → number_at numbers v ≡ cond b (Some number) before → number_at (set numbers var 0) v ≡ before
    by_test true is was = number_set numbers var 0 v true is within ∙ sym (none (eqb-true _ _ is))
    by_test false is was = number_set numbers var 0 v false is within ∙ was

-- the arrays after an entry came
arrays_with : (t : TrailState) (e : Entry) (room : ℕ) (standings written levels : List ℕ) → AreArraysOf t room standings levels →
    is_free t.entries e.lit.variable ≡ true → IsWithin (length t.saved) e.lit → e.lit.variable ≤ 1000000 → IsNextLevel (level_now t.entries) e.level e.reason →
    length written ≡ length standings → ((l : Literal) → standing_at written l ≡ standing_with e.lit (length t.entries) (2 ^ 31 + length t.entries) (standing_at standings l) l) →
    AreArraysOf (record t { entries = e ∷ t.entries }) room written (set levels e.lit.variable (e.level + 1))
arrays_with t e room standings written levels arrays free within literal next same are = record {
  trail = trail_with t e arrays.trail free within (within.0, literal) next;
  room_for_all = arrays.room_for_all;
  literals = same ∙ arrays.literals;
  leveled = length-set levels e.lit.variable (e.level + 1) ∙ arrays.leveled;
  standing = λ l. are l ∙ standing_came e.lit l (length t.entries) (standing_at standings l) (place_of t.entries l.variable) (sign_of t.entries l.variable) (e.lit.variable == l.variable) (arrays.standing l);
  level = λ v. number_came levels e.lit.variable e.level v (level_of t.entries v) (omega (arith, within.1, arrays.leveled)) (arrays.level v);
}

-- the arrays after the newest entry left
arrays_without : (e : Entry) (older : List Entry) (saved saved_after : List (Option Bool)) (room : ℕ) (standings written levels : List ℕ) →
    AreArraysOf (record { entries = e ∷ older; saved = saved }) room standings levels → length saved_after ≡ length saved → length written ≡ length standings →
    ((l : Literal) → standing_at written l ≡ standing_with e.lit (2 ^ 30) (2 ^ 30) (standing_at standings l) l) →
    AreArraysOf (record { entries = older; saved = saved_after }) room written (set levels e.lit.variable 0)
arrays_without e older saved saved_after room standings written levels arrays kept same are =
    let free : (v : ℕ) → e.lit.variable ≡ v → is_free older v ≡ true = λ v here. subst (λ k. is_free older k ≡ true) here arrays.trail.distinct.0 in
    record {
      trail = trail_without e older saved saved_after arrays.trail kept;
      room_for_all = omega (arith, arrays.room_for_all);
      literals = omega (arith, arrays.literals);
      leveled = omega (arith, arrays.leveled, length-set levels e.lit.variable 0);
      standing = λ l. are l ∙ standing_left e.lit l (length older) (standing_at standings l) older (e.lit.variable == l.variable) refl arrays.trail.distinct.0 (arrays.standing l);
      level = λ v. number_left levels e.lit.variable e.level v (level_of older v) (omega (arith, arrays.trail.within.0.1, arrays.leveled)) (λ here. level_of-free older v (free v here)) (arrays.level v);
    }

-- the arrays after an entry was added at the end of those that are held, oldest first
pub arrays_pushed : (items after : List Entry) (e : Entry) (saved : List (Option Bool)) (before : TrailState) (room room_after : ℕ) (standings written levels : List ℕ) (var level place negated : ℕ) →
    AreArraysOf (record { entries = reverse items; saved = saved }) room standings levels → record { entries = reverse items; saved = saved } ≡ before →
    is_free before.entries e.lit.variable ≡ true → 1 ≤ e.lit.variable → e.lit.variable ≤ 1000000 → e.lit.variable ≤ length before.saved → IsNextLevel (level_now before.entries) e.level e.reason →
    after ≡ items ++ e ∷ [] → room_after ≡ room → length written ≡ length standings →
    ((l : Literal) → standing_at written l ≡ standing_with e.lit place negated (standing_at standings l) l) → var ≡ e.lit.variable → level ≡ e.level → place ≡ length before.entries → negated ≡ 2 ^ 31 + place →
    AreArraysOf (record { entries = reverse after; saved = saved }) room_after written (set levels var (level + 1))
arrays_pushed items after e saved before room room_after standings written levels var level place negated arrays view free low literal high next pushed same_room same are var_is level_is place_is negated_is =
    let t : TrailState = record { entries = reverse items; saved = saved } in
    let entries_are : reverse after ≡ e ∷ reverse items = ap reverse pushed ∙ reverse-append items (e ∷ []) in
    let count : place ≡ length (reverse items) = place_is ∙ ap (λ (s : TrailState). length s.entries) (sym view) in
    let stand : (l : Literal) → standing_at written l ≡ standing_with e.lit (length (reverse items)) (2 ^ 31 + length (reverse items)) (standing_at standings l) l =
    λ l. are l ∙ (ap (λ n. standing_with e.lit place n (standing_at standings l) l) negated_is ∙ ap (λ n. standing_with e.lit n (2 ^ 31 + n) (standing_at standings l) l) count) in
    rw (entries_are, same_room, var_is, level_is)
    (arrays_with t e room standings written levels arrays
    (subst (λ (s : TrailState). is_free s.entries e.lit.variable ≡ true) (sym view) free)
    (low, subst (λ (s : TrailState). e.lit.variable ≤ length s.saved) (sym view) high) literal
    (subst (λ (s : TrailState). IsNextLevel (level_now s.entries) e.level e.reason) (sym view) next) same stand)

-- and after the last one was taken
pub arrays_popped : (items after : List Entry) (e : Entry) (saved saved_after : List (Option Bool)) (room room_after : ℕ) (standings written levels : List ℕ) (at : ℕ) →
    AreArraysOf (record { entries = reverse items; saved = saved }) room standings levels → items ≡ after ++ e ∷ [] → length saved_after ≡ length saved → room_after ≡ room →
    length written ≡ length standings → ((l : Literal) → standing_at written l ≡ standing_with e.lit (2 ^ 30) (2 ^ 30) (standing_at standings l) l) → at ≡ e.lit.variable →
    AreArraysOf (record { entries = reverse after; saved = saved_after }) room_after written (set levels at 0)
arrays_popped items after e saved saved_after room room_after standings written levels at arrays popped kept same_room same are at_is =
    let entries_are : reverse items ≡ e ∷ reverse after = ap reverse popped ∙ reverse-append after (e ∷ []) in
    rw (same_room, at_is)
    (arrays_without e (reverse after) saved saved_after room standings written levels
    (subst (λ entries. AreArraysOf (record { entries = entries; saved = saved }) room standings levels) entries_are arrays) kept same are)

-- there is room for an entry of a free variable
pub room_to_push : (items : List Entry) (e : Entry) (saved : List (Option Bool)) (before : TrailState) (room : ℕ) (standings levels : List ℕ) →
    AreArraysOf (record { entries = reverse items; saved = saved }) room standings levels → record { entries = reverse items; saved = saved } ≡ before →
    is_free before.entries e.lit.variable ≡ true → 1 ≤ e.lit.variable → e.lit.variable ≤ 1000000 → e.lit.variable ≤ length before.saved → IsNextLevel (level_now before.entries) e.level e.reason →
    length items < room
room_to_push items e saved before room standings levels arrays view free low literal high next =
    let more = trail_with before e (subst IsTrail view arrays.trail) free (low, high) (low, literal) next in
    let entries_are : length before.entries ≡ length items = ap (λ (s : TrailState). length s.entries) (sym view) ∙ length-reverse items in
    let saved_are : length before.saved ≡ length saved = ap (λ (s : TrailState). length s.saved) (sym view) in
    omega (arith, more.fits, arrays.room_for_all)
