-- Parts that are moved to a packed arena.
use Rattle.std.proofs.Common.{◌≡◌, ℕ, ◌+◌, ◌<◌, ◌≤◌, ◌==◌, ◌≢◌, ◌⊎◌, inl, inr, eqb-true, ne_eqb, set, Bool, true, false, cond, List, ◌++◌, length, refl, ap, sym, ◌∙◌, subst, arith}
use Rattle.std.specs.Prelude.{Option, Some, None}
use Rattle.std.proofs.lemmas.Bool.{eqb-false, cases_lt}
use Rattle.std.proofs.lemmas.List.{length-append}
use Rattle.lit_base.specs.Literal.{Literal}
use Rattle.lrat_check.specs.declared.table.Span.{Span}
use Rattle.lrat_check.specs.declared.table.ShortSpan.{ShortSpan}
use Rattle.lrat_check.specs.Table.{long, part_of, part_at, first_of}
use Rattle.lrat_check.specs.Clauses.{lits_in, IsPart}
use Rattle.lrat_check.specs.Packing.{IsMoved, Grows}
use Rattle.lrat_check.proofs.Spans.{part_set, part_past}
use Rattle.lrat_check.proofs.Arenas.{lits_stay, part_stays, lits_of_part}

-- what was moved stays where the packed arena grows
pub moved_stays : (literals packed after : List Literal) (old new : Option Span) → Grows packed after → IsMoved literals packed old new → IsMoved literals after old new
moved_stays literals packed after old new grows moved =
    subst (λ xs. IsMoved literals xs old new) (sym grows.1)
    (record {
      within = let size = length-append packed grows.0 in part_stays (length packed) (length (packed ++ grows.0)) new (omega (arith, size)) moved.within;
      same = lits_stay packed grows.0 new moved.within ∙ moved.same;
    })

nothing_moved : (literals packed : List Literal) → IsMoved literals packed None None
nothing_moved literals packed = record { within = tt; same = refl }

-- where all parts were moved, each clause is found as before
abbrev pub IsKept : List Literal → List Literal → Option Span → Option Span → Type 0
IsKept literals packed old new = (lits_in packed new ≡ lits_in literals old) × IsPart (length packed) new

pub first_moved : (literals packed : List Literal) (array array_after map map_after : Option Span) → IsPart (length literals) (first_of array map) →
    IsMoved literals packed array array_after → IsMoved literals packed map map_after → IsKept literals packed (first_of array map) (first_of array_after map_after)
first_moved literals packed None None map map_after within one two = (two.same, two.within)
first_moved literals packed None (Some t) map map_after within one two = let found = sym (lits_of_part packed t one.within.0 one.within.1) ∙ one.same in cc
first_moved literals packed (Some s) None map map_after within one two = let found = sym (lits_of_part literals s within.0 within.1) ∙ sym one.same in cc
first_moved literals packed (Some s) (Some t) map map_after within one two = (one.same, one.within)

-- the same, where the array was moved first and then the map
pub all_kept : (literals one two packed after : List Literal) (array array_after map map_after : Option Span) → one ≡ literals → two ≡ literals → Grows packed after →
    IsPart (length literals) (first_of array map) → IsMoved one packed array array_after → IsMoved two after map map_after → IsKept literals after (first_of array map) (first_of array_after map_after)
all_kept literals one two packed after array array_after map map_after first second grows within moved moved_next =
    first_moved literals after array array_after map map_after within
    (moved_stays literals packed after array array_after grows (subst (λ xs. IsMoved xs packed array array_after) first moved))
    (subst (λ xs. IsMoved xs after map map_after) second moved_next)

-- one part more of an array is moved
pub done_more : (literals packed after : List Literal) (before spans : List ShortSpan) (place : ℕ) (new : ShortSpan) → place < length spans → Grows packed after →
    ((n : ℕ) → n < place → IsMoved literals packed (part_at before n) (part_at spans n)) → part_at spans place ≡ part_at before place →
    IsMoved literals after (part_at spans place) (part_of (Some (long new))) → (n : ℕ) → n < place + 1 → IsMoved literals after (part_at before n) (part_at (set spans place new) n)
done_more literals packed after before spans place new within grows done same moved n below =
    subst (IsMoved literals after (part_at before n)) (sym (part_set spans place new within n)) (by_place (place == n) refl)
  where
    by_place : (b : Bool) → (place == n) ≡ b → IsMoved literals after (part_at before n) (cond b (part_of (Some (long new))) (part_at spans n))
    by_place true is = subst (λ k. IsMoved literals after (part_at before k) (part_of (Some (long new)))) (eqb-true place n is) (subst (λ o. IsMoved literals after o (part_of (Some (long new)))) same moved)
    by_place false other =
        moved_stays literals packed after (part_at before n) (part_at spans n) grows (done n (let apart : place ≢ n = eqb-false place n other in omega (arith, below, apart)))

-- those behind it are as they were
pub left_more : (before spans : List ShortSpan) (place : ℕ) (new : ShortSpan) → place < length spans → ((n : ℕ) → place ≤ n → part_at spans n ≡ part_at before n) →
    (n : ℕ) → place + 1 ≤ n → part_at (set spans place new) n ≡ part_at before n
left_more before spans place new within left n behind =
    part_set spans place new within n ∙ (ap (λ b. cond b (part_of (Some (long new))) (part_at spans n)) (ne_eqb place n (λ e. let same : place ≡ n = e in omega (arith, same, behind))) ∙ left n (omega arith))

-- all parts of an array are moved
pub all_moved : (literals packed : List Literal) (before spans : List ShortSpan) (place n : ℕ) → length spans ≡ length before → length before ≤ place →
    ((k : ℕ) → k < place → IsMoved literals packed (part_at before k) (part_at spans k)) → IsMoved literals packed (part_at before n) (part_at spans n)
all_moved literals packed before spans place n size all done = elim (cases_lt n place) [
  | inl below ↦ done n below
  | inr past ↦
      subst (λ o. IsMoved literals packed o (part_at spans n)) (sym (part_past before n (omega (arith, past, all))))
      (subst (IsMoved literals packed None) (sym (part_past spans n (omega (arith, past, all, size)))) (nothing_moved literals packed))
]

-- a part of a map that is emptied into another: it is in the first still, or was moved to the other
abbrev pub IsOnItsWay : List Literal → List Literal → Option Span → Option Span → Option Span → Type 0
IsOnItsWay literals packed first left moved = ((left ≡ first) × (moved ≡ None)) ⊎ ((left ≡ None) × IsMoved literals packed (part_of first) (part_of moved))
