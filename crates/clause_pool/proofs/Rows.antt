-- The clauses of slots over an arena.
use Rattle.std.proofs.Common.{◌≡◌, ℕ, ◌+◌, ◌<◌, ◌≤◌, ◌==◌, List, [], ◌∷◌, ◌++◌, length, take, drop, reverse, get_or, map, refl, ap, sym, ◌∙◌, subst, arith}
use Rattle.std.specs.Prelude.{Some, slice_range}
use Rattle.std.proofs.lemmas.Bool.{cond-true, cond-false, eq-eqb, ne_eqb}
use Rattle.std.proofs.lemmas.List.{length-append, length-map, length-reverse, map-append, take-map, get_or-map}
use mathlib.Core.List.{reverse-cons}
use Rattle.lit_base.specs.Literal.{Literal}
use Rattle.lit_base.specs.Held.{HeldClause}
use Rattle.clause_pool.specs.declared.slot.Slot.{Slot}
use Rattle.clause_pool.specs.Arena.{end_of, parts_of, AreEnds, IsArena, at_place}
use Rattle.clause_pool.specs.Slots.{ends_of, rows_of, clauses_in, slot_names, row_names, unlinked}
use Rattle.clause_pool.specs.Spans.{lits_of}
use Rattle.clause_pool.proofs.Splits.{split, older_length}
use Rattle.clause_pool.proofs.Laying.{IsSpanRead, span_read_at}

-- a change of each item goes through the turning round
pub map-reverse : {X Y : Type 0} (f : X → Y) (items : List X) → reverse (map f items) ≡ map f (reverse items)
map-reverse f [] = refl
map-reverse f (x ∷ later) =
    reverse-cons (f x) (map f later)
    ∙ (ap (λ xs. xs ++ f x ∷ []) (map-reverse f later) ∙ (sym (map-append f (reverse later) (x ∷ [])) ∙ ap (map f) (sym (reverse-cons x later))))

-- there is a clause for each slot
pub rows_length : (literals : List Literal) (slots : List Slot) → length (clauses_in literals slots) ≡ length slots
rows_length literals [] = refl
rows_length literals (s ∷ older) = let rest = rows_length literals older in omega (arith, rest)

-- under its name
pub names_in : (literals : List Literal) (slots : List Slot) → row_names (clauses_in literals slots) ≡ slot_names slots
names_in literals [] = refl
names_in literals (s ∷ older) = ap (λ names. s.name ∷ names) (names_in literals older)

-- with the literals of its part
pub lits_of-rows : (literals : List Literal) (slots : List Slot) → lits_of (clauses_in literals slots) ≡ parts_of literals (ends_of slots)
lits_of-rows literals [] = refl
lits_of-rows literals (s ∷ older) = ap (λ parts. slice_range literals (end_of (ends_of older)) s.end ∷ parts) (lits_of-rows literals older)

ends_without_links : (slots : List Slot) → ends_of (map unlinked slots) ≡ ends_of slots
ends_without_links [] = refl
ends_without_links (s ∷ older) = ap (λ ends. s.end ∷ ends) (ends_without_links older)

rows_without_links : (slots : List Slot) (parts : List (List Literal)) → rows_of (map unlinked slots) parts ≡ rows_of slots parts
rows_without_links [] parts = refl
rows_without_links (s ∷ older) [] = refl
rows_without_links (s ∷ older) (lits ∷ parts) =
    ap (λ rows. let c : HeldClause = record { name = s.name; lits = lits; uses = s.uses } in c ∷ rows) (rows_without_links older parts)

-- slots that differ in their links alone
turned : (items after : List Slot) → map unlinked after ≡ map unlinked items → map unlinked (reverse after) ≡ map unlinked (reverse items)
turned items after same = sym (map-reverse unlinked after) ∙ (ap reverse same ∙ map-reverse unlinked items)

-- end where they ended
pub ends_relinked : (items after : List Slot) → map unlinked after ≡ map unlinked items → ends_of (reverse after) ≡ ends_of (reverse items)
ends_relinked items after same = sym (ends_without_links (reverse after)) ∙ (ap ends_of (turned items after same) ∙ ends_without_links (reverse items))

-- and have the same clauses
pub rows_relinked : (literals : List Literal) (items after : List Slot) → map unlinked after ≡ map unlinked items → clauses_in literals (reverse after) ≡ clauses_in literals (reverse items)
rows_relinked literals items after same =
    sym (rows_without_links (reverse after) (parts_of literals (ends_of (reverse after))))
    ∙ (ap (λ slots. rows_of slots (parts_of literals (ends_of (reverse after)))) (turned items after same)
    ∙ (rows_without_links (reverse items) (parts_of literals (ends_of (reverse after)))
    ∙ ap (λ ends. rows_of (reverse items) (parts_of literals ends)) (ends_relinked items after same)))

-- the clause of a slot
abbrev pub row_in : List Literal → Slot → ℕ → HeldClause
row_in literals s from = record { name = s.name; lits = slice_range literals from s.end; uses = s.uses }

row_at : (literals : List Literal) (newer : List Slot) (s : Slot) (older : List Slot) →
    at_place (clauses_in literals (newer ++ s ∷ older)) (length older) ≡ Some (row_in literals s (end_of (ends_of older)))
row_at literals [] s older =
    cond-true (length older == length (clauses_in literals older)) (Some (row_in literals s (end_of (ends_of older)))) (at_place (clauses_in literals older) (length older))
    (eq-eqb (length older) (length (clauses_in literals older)) (sym (rows_length literals older)))
row_at literals (t ∷ newer) s older =
    cond-false (length older == length (clauses_in literals (newer ++ s ∷ older))) (Some (row_in literals t (end_of (ends_of (newer ++ s ∷ older)))))
    (at_place (clauses_in literals (newer ++ s ∷ older)) (length older))
    (ne_eqb (length older) (length (clauses_in literals (newer ++ s ∷ older)))
    (λ same. let size : length (clauses_in literals (newer ++ s ∷ older)) ≡ length newer + length (s ∷ older) = rows_length literals (newer ++ s ∷ older) ∙ length-append newer (s ∷ older) in
    omega (arith, same, size)))
    ∙ row_at literals newer s older

-- a slot ends where it begins or later, and not behind the end of all
pub row_order : (newer : List Slot) (s : Slot) (older : List Slot) → AreEnds (ends_of (newer ++ s ∷ older)) →
    (end_of (ends_of older) ≤ s.end) × (s.end ≤ end_of (ends_of (newer ++ s ∷ older)))
row_order [] s older ordered = (ordered.0, omega arith)
row_order (t ∷ newer) s older ordered =
    let later = row_order newer s older ordered.1 in
    (later.0, omega (arith, later.1, ordered.0))

-- what is read of a slot at a place
pub record IsRow (literals : List Literal) (items : List Slot) (place : ℕ) (s : Slot) : Type 0 where
  pub order : end_of (ends_of (reverse (take place items))) ≤ s.end
  pub within : s.end ≤ length literals
  pub is : at_place (clauses_in literals (reverse items)) place ≡ Some (row_in literals s (end_of (ends_of (reverse (take place items)))))

pub is_row : (literals : List Literal) (items : List Slot) (place : ℕ) (d : Slot) → IsArena literals (ends_of (reverse items)) → place < length items → IsRow literals items place (get_or items place d)
is_row literals items place d arena inside =
    let at = split items place d inside in
    let bounds = row_order (reverse (drop (place + 1) items)) (get_or items place d) (reverse (take place items)) (subst (λ slots. AreEnds (ends_of slots)) at arena.ordered) in
    let size = older_length items place (omega (arith, inside)) in
    let full : end_of (ends_of (reverse (drop (place + 1) items) ++ get_or items place d ∷ reverse (take place items))) ≡ length literals = ap (λ slots. end_of (ends_of slots)) (sym at) ∙ arena.full in
    record {
      order = bounds.0;
      within = omega (arith, bounds.1, full);
      is = ap (λ slots. at_place (clauses_in literals slots) place) at
          ∙ (ap (λ p. at_place (clauses_in literals (reverse (drop (place + 1) items) ++ get_or items place d ∷ reverse (take place items))) p) (sym size)
          ∙ row_at literals (reverse (drop (place + 1) items)) (get_or items place d) (reverse (take place items)));
    }

-- a place below the number of clauses is that of a slot
pub inside_slots : (literals : List Literal) (items : List Slot) (value : List HeldClause) (place : ℕ) → clauses_in literals (reverse items) ≡ value → place < length value → place < length items
inside_slots literals items value place view inside = omega (arith, inside, ap length view, rows_length literals (reverse items), length-reverse items)

-- what is read at a place is its clause
pub row_read : (literals : List Literal) (items : List Slot) (value : List HeldClause) (place : ℕ) (s : Slot) → IsArena literals (ends_of (reverse items)) → clauses_in literals (reverse items) ≡ value →
    place < length value → s ≡ get_or items place s → at_place value place ≡ Some (row_in literals s (end_of (ends_of (reverse (take place items)))))
row_read literals items value place s arena view inside at =
    let row = subst (IsRow literals items place) (sym at) (is_row literals items place s arena (inside_slots literals items value place view inside)) in
    ap (λ rows. at_place rows place) (sym view) ∙ row.is

-- where the literals of a slot stand
pub slot_span : (literals : List Literal) (items read : List Slot) (value : List HeldClause) (place start : ℕ) (s : Slot) → IsArena literals (ends_of (reverse items)) →
    clauses_in literals (reverse items) ≡ value → read ≡ items → place < length value → start ≡ end_of (ends_of (reverse (take place read))) → s ≡ get_or items place s →
    IsSpanRead literals (lits_of value) place start s.end
slot_span literals items read value place start s arena view reads inside starts at =
    let ends : reverse (map (λ t. t.end) items) ≡ ends_of (reverse items) = map-reverse (λ t. t.end) items in
    let within = inside_slots literals items value place view inside in
    let from : start ≡ end_of (reverse (take place (map (λ t. t.end) items))) =
    starts
    ∙ (ap (λ xs. end_of (ends_of (reverse (take place xs)))) reads
    ∙ ap end_of (sym (map-reverse (λ t. t.end) (take place items)) ∙ ap reverse (sym (take-map (λ t. t.end) place items)))) in
    let below : place < length (map (λ t. t.end) items) = omega (arith, within, length-map items (λ t. t.end)) in
    let end : s.end ≡ get_or (map (λ t. t.end) items) place s.end = ap (λ t. t.end) at ∙ sym (get_or-map (λ t. t.end) items place s s.end within) in
    subst (λ parts. IsSpanRead literals parts place start s.end) (ap (parts_of literals) ends ∙ (sym (lits_of-rows literals (reverse items)) ∙ ap lits_of view))
    (span_read_at literals (map (λ t. t.end) items) (map (λ t. t.end) items) place start s.end (subst (IsArena literals) (sym ends) arena) below refl from end)
