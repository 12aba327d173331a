-- The list of the marked variables, and the room that it has.
use Rattle.std.proofs.Common.{◌≡◌, ℕ, suc, zero, ◌==◌, ◌+◌, ◌≤◌, ◌<◌, Bool, true, false, cond, ◌||◌, List, [], ◌∷◌, ◌++◌, append-nil, append_assoc, length, set, drop, get_or, refl, ap, ◌∙◌, sym, inl, inr, arith}
use Rattle.std.specs.Prelude.{count_by, vec_len, vec_capacity}
use Rattle.std.proofs.lemmas.Bool.{cases_eq, cases_lt, cases_Bool, eq-eqb, ne_eqb, both_ways, or_right}
use Rattle.std.proofs.lemmas.List.{drop_more, drop_all, get_or-set_same, get_or-set_other, get_or_past, length-set}
use Rattle.std.proofs.lemmas.List.Sums.{sum_by-set, sum_by_push, count_by-le-length}
use Rattle.lit_base.specs.Analysis.{is_marked}
use Rattle.first_uip.specs.Marks.{is_flagged, AreFlagsOf, GoesOn, AreListed, AreClear}
use Rattle.first_uip.specs.declared.marks.Marks.{Marks}
use Rattle.first_uip.proofs.Flagged.{either_first, is_flagged-set}

-- a list goes on from itself, and further from one that goes on
pub goes_on_same : (marked : List ℕ) → GoesOn marked marked
goes_on_same marked = record { more = []; is = sym (append-nil marked) }

pub goes_on_further : (marked next after : List ℕ) → GoesOn marked next → GoesOn next after → GoesOn marked after
goes_on_further marked next after first then = record {
  more = first.more ++ then.more;
  is = then.is ∙ (ap (λ ms. ms ++ then.more) first.is ∙ append_assoc marked first.more then.more);
}

-- where no flag is set, nothing is listed
pub listed_clear : (n : ℕ) (m : Marks) → AreClear n m → AreListed m
listed_clear n m clear = record {
  flags = λ v. clear.unset v ∙ sym (ap (λ marked. is_marked marked v) clear.none_listed);
  once = λ v. ap (count_by (λ w. v == w)) clear.none_listed ∙ sym (ap (λ b. cond b 1 0) (clear.unset v));
  few = omega (arith, clear.none);
  room = omega (arith, clear.len, clear.room);
}

-- of the same flags the same list
pub listed_same : (m after : Marks) → after.flags ≡ m.flags → after.marked ≡ m.marked → AreListed m → AreListed after
listed_same m after flags marked listed =
    let count = ap (λ fs. count_by (λ flag. flag) fs.items) flags in
    record {
      flags = λ v. ap (λ fs. is_flagged fs.items v) flags ∙ (listed.flags v ∙ ap (λ ms. is_marked ms.items v) (sym marked));
      once = λ v. ap (λ ms. count_by (λ w. v == w) ms.items) marked ∙ (listed.once v ∙ ap (λ fs. cond (is_flagged fs.items v) 1 0) (sym flags));
      few = omega (arith, ap vec_len marked, count, listed.few);
      room = omega (arith, ap vec_len flags, ap vec_capacity marked, listed.room);
    }

marked_last : (marked : List ℕ) (v w : ℕ) → is_marked (marked ++ v ∷ []) w ≡ ((v == w) || is_marked marked w)
marked_last [] v w = refl
marked_last (m ∷ marked) v w = ap (λ b. (m == w) || b) (marked_last marked v w) ∙ either_first (m == w) (v == w) (is_marked marked w)

-- one flag more that is set is one more that counts
count_more : (flags : List Bool) (v : ℕ) → v < length flags → is_flagged flags v ≡ false → count_by (λ flag. flag) (set flags v true) ≡ count_by (λ flag. flag) flags + 1
count_more flags v within unset =
    let one : Bool → ℕ = λ flag. cond flag 1 0 in
    let sums : count_by (λ flag. flag) (set flags v true) + one (get_or flags v false) ≡ count_by (λ flag. flag) flags + 1 = sum_by-set one flags v true false within in
    let none : one (get_or flags v false) ≡ 0 = ap one unset in
    omega arith

-- a variable that wasn't listed is listed once
once_more : (marked : List ℕ) (flags : List Bool) (v w : ℕ) → is_flagged flags v ≡ false → count_by (λ x. w == x) marked ≡ cond (is_flagged flags w) 1 0 →
    count_by (λ x. w == x) (marked ++ v ∷ []) ≡ cond ((v == w) || is_flagged flags w) 1 0
once_more marked flags v w unset once =
    sum_by_push (λ x. cond (w == x) 1 0) marked v
    ∙ elim (cases_eq v w) [
      | inl same ↦
          let none : cond {A = ℕ} (is_flagged flags w) 1 0 ≡ 0 = ap {B = ℕ} (λ x. cond (is_flagged flags x) 1 0) (sym same) ∙ ap {B = ℕ} (λ b. cond b 1 0) unset in
          let one : cond {A = ℕ} (w == v) 1 0 ≡ 1 = ap {B = ℕ} (λ b. cond b 1 0) (eq-eqb w v (sym same)) in
          let now : cond {A = ℕ} ((v == w) || is_flagged flags w) 1 0 ≡ 1 = ap {B = ℕ} (λ b. cond (b || is_flagged flags w) 1 0) (eq-eqb v w same) in
          omega (arith, once)
      | inr other ↦
          let none : cond {A = ℕ} (w == v) 1 0 ≡ 0 = ap {B = ℕ} (λ b. cond b 1 0) (ne_eqb w v (λ is. other (sym is))) in
          let now : cond {A = ℕ} ((v == w) || is_flagged flags w) 1 0 ≡ cond {A = ℕ} (is_flagged flags w) 1 0 = ap {B = ℕ} (λ b. cond (b || is_flagged flags w) 1 0) (ne_eqb v w other) in
          omega (arith, once)
    ]

-- so there is room to list a variable whose flag isn't set
pub room_left : (m : Marks) (v : ℕ) → vec_len m.flags ≡ length m.flags.items → v < vec_len m.flags → is_flagged m.flags.items v ≡ false → AreListed m → vec_len m.marked < vec_capacity m.marked
room_left m v len within unset listed =
    let more = count_more m.flags.items v (omega arith) unset in
    omega (arith, more, count_by-le-length (λ flag. flag) (set m.flags.items v true), length-set m.flags.items v true, listed.few, listed.room)

-- and there are no more listed variables than flags
pub listed_few : (m : Marks) → vec_len m.marked ≡ length m.marked.items → vec_len m.flags ≡ length m.flags.items → AreListed m → length m.marked.items ≤ vec_len m.flags
listed_few m marked_len flags_len listed = omega (arith, listed.few, count_by-le-length (λ flag. flag) m.flags.items)

-- a variable more with its flag
pub listed_more : (m after : Marks) (v : ℕ) → v < length m.flags.items → is_flagged m.flags.items v ≡ false → after.flags.items ≡ set m.flags.items v true →
    after.marked.items ≡ m.marked.items ++ v ∷ [] → vec_len after.flags ≡ vec_len m.flags → vec_len after.marked ≡ vec_len m.marked + 1 → vec_capacity after.marked ≡ vec_capacity m.marked →
    AreListed m → AreListed after
listed_more m after v within unset flags marked len one_more room listed =
    let count = ap (λ fs. count_by (λ flag. flag) fs) flags ∙ count_more m.flags.items v within unset in
    record {
      flags = λ w.
          ap (λ fs. is_flagged fs w) flags
          ∙ (is_flagged-set m.flags.items v w within
          ∙ (ap (λ b. (v == w) || b) (listed.flags w) ∙ (sym (marked_last m.marked.items v w) ∙ ap (λ ms. is_marked ms w) (sym marked))));
      once = λ w.
          ap (count_by (λ x. w == x)) marked
          ∙ (once_more m.marked.items m.flags.items v w unset (listed.once w)
          ∙ ap (λ b. cond b 1 0) (sym (ap (λ fs. is_flagged fs w) flags ∙ is_flagged-set m.flags.items v w within)));
      few = omega (arith, one_more, count, listed.few);
      room = omega (arith, len, room, listed.room);
    }

-- the flags that are still set are those of the variables from an index on
abbrev pub AreLeft : ℕ → List ℕ → List Bool → Type 0
AreLeft index marked flags = (v : ℕ) → is_flagged flags v ≡ true → is_marked (drop index marked) v ≡ true

-- the list has the variable at an index, so its flag is set
among : (marked : List ℕ) (index d : ℕ) → index < length marked → is_marked marked (get_or marked index d) ≡ true
among [] index d below = absurd (omega arith)
among (m ∷ later) zero d below = ap (λ b. b || is_marked later m) (eq-eqb m m refl)
among (m ∷ later) (suc index) d below = or_right (m == get_or later index d) (is_marked later (get_or later index d)) (among later index d (omega arith))

pub listed_flag : (marked : List ℕ) (flags : List Bool) (index d : ℕ) → AreFlagsOf marked flags → index < length marked → is_flagged flags (get_or marked index d) ≡ true
listed_flag marked flags index d are within = are (get_or marked index d) ∙ among marked index d within

-- and it is one of these
pub listed_within : (marked : List ℕ) (flags : List Bool) (index d : ℕ) → AreFlagsOf marked flags → index < length marked → get_or marked index d < length flags
listed_within marked flags index d are within =
    let v = get_or marked index d in
    elim (cases_lt v (length flags)) [ inl low ↦ low | inr high ↦ absurd (both_ways (is_flagged flags v) (get_or_past flags v false high) (listed_flag marked flags index d are within)) ]

-- once the flag of the variable at an index is cleared
pub left_more : (marked : List ℕ) (flags after : List Bool) (index w d : ℕ) → index < length marked → w ≡ get_or marked index d → w < length flags → after ≡ set flags w false →
    AreLeft index marked flags → AreLeft (index + 1) marked after
left_more marked flags after index w d below here within is left v still =
    let set_still : is_flagged (set flags w false) v ≡ true = ap (λ fs. is_flagged fs v) (sym is) ∙ still in
    elim (cases_eq v w) [
      | inl same ↦
          let cleared : is_flagged (set flags w false) v ≡ false = ap (λ i. get_or (set flags w false) i false) same ∙ get_or-set_same flags w false false within in
          absurd (both_ways (is_flagged (set flags w false) v) cleared set_still)
      | inr other ↦
          let was_set : is_flagged flags v ≡ true = sym (get_or-set_other flags w v false false other) ∙ set_still in
          let first : is_marked (drop index marked) v ≡ ((w == v) || is_marked (drop (index + 1) marked) v) =
          ap (λ ms. is_marked ms v) (drop_more marked index d below) ∙ ap (λ m. (m == v) || is_marked (drop (index + 1) marked) v) (sym here) in
          let apart : (w == v) ≡ false = ne_eqb w v (λ same. other (sym same)) in
          ap (λ b. b || is_marked (drop (index + 1) marked) v) (sym apart) ∙ (sym first ∙ left v was_set)
    ]

-- where none is left, no flag is set
pub left_none : (marked : List ℕ) (flags : List Bool) (index : ℕ) → length marked ≤ index → AreLeft index marked flags → (v : ℕ) → is_flagged flags v ≡ false
left_none marked flags index past left v = elim (cases_Bool (is_flagged flags v)) [
  | inl set_still ↦ absurd (both_ways true (sym (left v set_still) ∙ ap (λ ms. is_marked ms v) (drop_all index marked past)) refl)
  | inr unset ↦ unset
]
