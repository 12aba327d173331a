-- The tallies of the lemmas: of slots one by one, and of the clauses in order.
use Rattle.std.proofs.Common.{◌≡◌, ℕ, ◌+◌, ◌-◌, ◌<◌, ◌≤◌, Bool, true, false, not, cond, ◌&&◌, List, [], ◌∷◌, ◌++◌, length, take, drop, reverse, get_or, map, refl, ap, sym, ◌∙◌, subst, arith}
use Rattle.std.specs.Prelude.{filter}
use Rattle.std.specs.List.Sorted.{IsPermutation}
use Rattle.std.proofs.lemmas.Bool.{cond_both}
use Rattle.std.proofs.lemmas.List.{get_or-map, length-take-le, length-drop, reverse-append, append-nil}
use Rattle.std.proofs.lemmas.List.Elements.{filter-append}
use Rattle.std.proofs.lemmas.List.Sorted.{IsPermutation-refl, IsPermutation-sym, IsPermutation-trans, IsPermutation-cons, IsPermutation-middle, IsPermutation-map, IsPermutation-reverse}
use Rattle.lit_base.specs.Literal.{Literal}
use Rattle.lit_base.specs.Held.{HeldClause, is_before, is_original, is_among, with_clause}
use Rattle.lit_base.specs.declared.name.Name.{Name}
use Rattle.clause_pool.specs.declared.slot.Slot.{Slot}
use Rattle.clause_pool.specs.declared.tally.Tally.{Tally}
use Rattle.clause_pool.specs.Arena.{end_of, AreEnds, IsArena}
use Rattle.clause_pool.specs.Slots.{ends_of, clauses_in}
use Rattle.clause_pool.specs.Pooled.{held_of, originals_of}
use Rattle.clause_pool.specs.Tallies.{tally_of, is_other_lemma, lemmas_but, tallies_but}
use Rattle.clause_pool.proofs.Splits.{newest, split}
use Rattle.clause_pool.proofs.Rows.{row_in, row_order, IsRow, is_row}

-- the slots before a place were looked at
pub record IsTallying (slots : List Slot) (flags : List Bool) (tallies : List Tally) (place start : ℕ) : Type 0 where
  pub begin : start ≡ end_of (ends_of (reverse (take place slots)))
  pub so_far : (literals : List Literal) (names : List Name) → IsArena literals (ends_of (reverse slots)) → flags ≡ map (λ s. is_among names s.name) slots →
      reverse tallies ≡ tallies_but names (clauses_in literals (reverse (take place slots)))

-- a slot ends where it begins or later
pub slot_order : (slots : List Slot) (place start : ℕ) (s e : Slot) → AreEnds (ends_of (reverse slots)) → place < length slots → s ≡ get_or slots place e →
    start ≡ end_of (ends_of (reverse (take place slots))) → start ≤ s.end
slot_order slots place start s e ends inside at begin =
    let row = row_order (reverse (drop (place + 1) slots)) (get_or slots place e) (reverse (take place slots)) (subst (λ xs. AreEnds (ends_of xs)) (split slots place e inside) ends) in
    omega (arith, row.0, begin, ap {B = ℕ} (λ t. t.end) at)

-- how many literals the clause of a slot has
tally_in : (literals : List Literal) (s : Slot) (from : ℕ) → from ≤ s.end → s.end ≤ length literals → tally_of (row_in literals s from) ≡ record { name = s.name; size = s.end - from; uses = s.uses }
tally_in literals s from order within =
    ap (λ n. let t : Tally = record { name = s.name; size = n; uses = s.uses } in t)
    (length-take-le (s.end - from) (drop from literals) (omega (arith, order, within, length-drop from literals)))

-- the tally of a clause more, where it is counted
tallies_first : (names : List Name) (c : HeldClause) (rows : List HeldClause) (b : Bool) → is_other_lemma names c.name ≡ b →
    tallies_but names (c ∷ rows) ≡ cond b (tally_of c ∷ tallies_but names rows) (tallies_but names rows)
tallies_first names c rows true is = ap (λ b. map tally_of (cond b (c ∷ lemmas_but names rows) (lemmas_but names rows))) is
tallies_first names c rows false is = ap (λ b. map tally_of (cond b (c ∷ lemmas_but names rows) (lemmas_but names rows))) is

-- the slot at the place: its flag tells whether it is one of the names
slot_flag : (slots : List Slot) (flags : List Bool) (names : List Name) (place : ℕ) (s e : Slot) (d b : Bool) → flags ≡ map (λ t. is_among names t.name) slots → place < length slots →
    s ≡ get_or slots place e → b ≡ (not (is_original s.name) && not (get_or flags place d)) → is_other_lemma names s.name ≡ b
slot_flag slots flags names place s e d b are inside at counts =
    sym (counts
    ∙ ap (λ f. not (is_original s.name) && not f)
    (ap (λ fs. get_or fs place d) are ∙ (get_or-map (λ t. is_among names t.name) slots place e d inside ∙ ap (λ t. is_among names t.name) (sym at))))

-- one slot more was looked at
tallied : (slots : List Slot) (flags : List Bool) (tallies after : List Tally) (place start : ℕ) (s e : Slot) (d b : Bool) → IsTallying slots flags tallies place start →
    place < length slots → s ≡ get_or slots place e → b ≡ (not (is_original s.name) && not (get_or flags place d)) →
    reverse after ≡ cond b (record { name = s.name; size = s.end - start; uses = s.uses } ∷ reverse tallies) (reverse tallies) → IsTallying slots flags after (place + 1) s.end
tallied slots flags tallies after place start s e d b so inside at counts is =
    let older = reverse (take place slots) in
    let more : reverse (take (place + 1) slots) ≡ s ∷ older = newest slots place e inside ∙ ap (λ t. t ∷ older) (sym at) in
    record {
      begin = ap (λ xs. end_of (ends_of xs)) (sym more);
      so_far = λ literals names arena are.
          let row = subst (IsRow literals slots place) (sym at) (is_row literals slots place e arena inside) in
          let rest = so.so_far literals names arena are in
          let counted = slot_flag slots flags names place s e d b are inside at counts in
          let tally = tally_in literals s (end_of (ends_of older)) row.order row.within ∙ ap (λ n. let t : Tally = record { name = s.name; size = s.end - n; uses = s.uses } in t) (sym so.begin) in
          is
          ∙ (ap (λ ts. cond b (record { name = s.name; size = s.end - start; uses = s.uses } ∷ ts) ts) rest
          ∙ (ap (λ t. cond b (t ∷ tallies_but names (clauses_in literals older)) (tallies_but names (clauses_in literals older))) (sym tally)
          ∙ (sym (tallies_first names (row_in literals s (end_of (ends_of older))) (clauses_in literals older) b counted)
          ∙ ap (λ xs. tallies_but names (clauses_in literals xs)) (sym more))));
    }

-- a slot that doesn't count is passed over
pub tallied_over : (slots : List Slot) (flags : List Bool) (tallies : List Tally) (place start : ℕ) (s e : Slot) (d b : Bool) → IsTallying slots flags tallies place start →
    place < length slots → s ≡ get_or slots place e → b ≡ (not (is_original s.name) && not (get_or flags place d)) → b ≡ false → IsTallying slots flags tallies (place + 1) s.end
tallied_over slots flags tallies place start s e d b so inside at counts low =
    tallied slots flags tallies tallies place start s e d false so inside at (sym low ∙ counts) refl

-- any other is put behind those so far
pub tallied_on : (slots : List Slot) (flags : List Bool) (tallies after : List Tally) (place start : ℕ) (s e : Slot) (d b : Bool) → IsTallying slots flags tallies place start →
    place < length slots → s ≡ get_or slots place e → b ≡ (not (is_original s.name) && not (get_or flags place d)) → b ≡ true →
    after ≡ tallies ++ record { name = s.name; size = s.end - start; uses = s.uses } ∷ [] → IsTallying slots flags after (place + 1) s.end
tallied_on slots flags tallies after place start s e d b so inside at counts high is =
    tallied slots flags tallies after place start s e d true so inside at (sym high ∙ counts)
    (ap reverse is ∙ reverse-append tallies (record { name = s.name; size = s.end - start; uses = s.uses } ∷ []))

-- originals have no tallies
no_originals : (names : List Name) (parts : List (List Literal)) → lemmas_but names (originals_of parts) ≡ []
no_originals names [] = refl
no_originals names (lits ∷ older) = no_originals names older

pub tallies_of-rows : (names : List Name) (rows : List HeldClause) (parts : List (List Literal)) → tallies_but names (rows ++ originals_of parts) ≡ tallies_but names rows
tallies_of-rows names rows parts =
    ap (map tally_of)
    (filter-append (λ c. is_other_lemma names c.name) rows (originals_of parts)
    ∙ (ap (λ more. lemmas_but names rows ++ more) (no_originals names parts) ∙ append-nil (lemmas_but names rows)))

one_in_front : (b : Bool) (c : HeldClause) (xs ys : List HeldClause) → IsPermutation xs ys → IsPermutation (cond b (c ∷ xs) xs) (cond b (c ∷ ys) ys)
one_in_front true c xs ys same = IsPermutation-cons c xs ys same
one_in_front false c xs ys same = same

one_behind : (b e : Bool) (c d : HeldClause) (xs ys : List HeldClause) → IsPermutation (cond b (c ∷ xs) xs) ys →
    IsPermutation (cond b (c ∷ cond e (d ∷ xs) xs) (cond e (d ∷ xs) xs)) (cond e (d ∷ ys) ys)
one_behind true true c d xs ys same =
    IsPermutation-trans (c ∷ d ∷ xs) (d ∷ c ∷ xs) (d ∷ ys) (IsPermutation-middle (c ∷ []) d xs) (IsPermutation-cons d (c ∷ xs) ys same)
one_behind true false c d xs ys same = same
one_behind false true c d xs ys same = IsPermutation-cons d xs ys same
one_behind false false c d xs ys same = same

-- a clause that is put in order is one more of those that pass a test, or is none of them
filter-with : (p : HeldClause → Bool) (c : HeldClause) (held : List HeldClause) → IsPermutation (filter p (c ∷ held)) (filter p (with_clause c held))
filter-with p c [] = IsPermutation-refl (filter p (c ∷ []))
filter-with p c (d ∷ later) =
    cond_both (is_before c.name d.name) (c ∷ d ∷ later) (d ∷ with_clause c later) (λ held. IsPermutation (filter p (c ∷ d ∷ later)) (filter p held))
    (λ before. IsPermutation-refl (filter p (c ∷ d ∷ later)))
    (λ after. one_behind (p c) (p d) c d (filter p later) (filter p (with_clause c later)) (filter-with p c later))

filter-held_of : (p : HeldClause → Bool) (rows : List HeldClause) → IsPermutation (filter p rows) (filter p (held_of rows))
filter-held_of p [] = IsPermutation-refl []
filter-held_of p (c ∷ older) =
    IsPermutation-trans (filter p (c ∷ older)) (filter p (c ∷ held_of older)) (filter p (with_clause c (held_of older)))
    (one_in_front (p c) c (filter p older) (filter p (held_of older)) (filter-held_of p older)) (filter-with p c (held_of older))

-- the tallies in the order of adding are those in order, but for their order
pub tallies_in_order : (names : List Name) (rows : List HeldClause) (parts : List (List Literal)) (held : List HeldClause) (tallies : List Tally) → held_of (rows ++ originals_of parts) ≡ held →
    reverse tallies ≡ tallies_but names rows → IsPermutation (tallies_but names held) tallies
tallies_in_order names rows parts held tallies view are =
    let all = rows ++ originals_of parts in
    let turned : reverse tallies ≡ tallies_but names all = are ∙ sym (tallies_of-rows names rows parts) in
    let placed : IsPermutation (tallies_but names all) (tallies_but names held) =
    subst (λ clauses. IsPermutation (tallies_but names all) (tallies_but names clauses)) view
    (IsPermutation-map tally_of (lemmas_but names all) (lemmas_but names (held_of all)) (filter-held_of (λ c. is_other_lemma names c.name) all)) in
    IsPermutation-trans (tallies_but names held) (tallies_but names all) tallies
    (IsPermutation-sym (tallies_but names all) (tallies_but names held) placed)
    (subst (λ ts. IsPermutation ts tallies) turned (IsPermutation-sym tallies (reverse tallies) (IsPermutation-reverse tallies)))
