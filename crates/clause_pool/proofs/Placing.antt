-- Where a name stands among the slots.
use Rattle.std.proofs.Common.{◌≡◌, ℕ, ◌+◌, ◌<◌, ◌^◌, Bool, true, false, cond, List, [], ◌∷◌, ◌++◌, length, take, drop, reverse, get_or, refl, ap, sym, ◌∙◌, subst, arith}
use Rattle.std.specs.Prelude.{Option, Some, None}
use Rattle.std.proofs.lemmas.Bool.{both_ways, cond-true}
use Rattle.std.proofs.lemmas.List.{length-map, length-reverse}
use Rattle.lit_base.specs.Literal.{Literal}
use Rattle.lit_base.specs.Named.{same_name}
use Rattle.lit_base.specs.Held.{HeldClause}
use Rattle.lit_base.specs.declared.name.Name.{Name}
use Rattle.lit_base.proofs.HeldClauses.{same_name-true, same_name-itself}
use Rattle.clause_pool.specs.declared.slot.Slot.{Slot}
use Rattle.clause_pool.specs.Slots.{clauses_in, slot_names, row_names, place_at, AreApart}
use Rattle.clause_pool.specs.Links.{IsLinked}
use Rattle.clause_pool.proofs.Splits.{split, older_length}
use Rattle.clause_pool.proofs.Rows.{names_in}

-- slots and heads as they are read are linked as those that are kept
pub linked_read : (heads heads_read : List ℕ) (items read : List Slot) → read ≡ items → heads_read ≡ heads → (length (reverse items) < 2 ^ 32 → IsLinked heads (reverse items)) →
    length read < 2 ^ 32 → IsLinked heads_read (reverse read)
linked_read heads heads_read items read same same_heads linked few =
    subst (λ xs. IsLinked heads_read (reverse xs)) (sym same) (subst (λ hs. IsLinked hs (reverse items)) (sym same_heads) (linked (omega (arith, few, ap length same, length-reverse items))))

-- a name stands among the clauses where it stands among the slots
pub place_read : (literals : List Literal) (items read : List Slot) (value : List HeldClause) (n : Name) → clauses_in literals (reverse items) ≡ value → read ≡ items →
    place_at (slot_names (reverse read)) n ≡ place_at (row_names value) n
place_read literals items read value n view same =
    ap (λ xs. place_at (slot_names (reverse xs)) n) same
    ∙ (ap (λ names. place_at names n) (sym (names_in literals (reverse items))) ∙ ap (λ rows. place_at (row_names rows) n) view)

pub apart_read : (literals : List Literal) (items : List Slot) (value : List HeldClause) → clauses_in literals (reverse items) ≡ value → AreApart (row_names value) → AreApart (slot_names (reverse items))
apart_read literals items value view apart = subst AreApart (ap row_names (sym view) ∙ names_in literals (reverse items)) apart

none_or_some : {X : Type 0} {o : Option X} {x : X} → o ≡ None → o ≡ Some x → ⊥
none_or_some none some = cc

-- where no name stands twice, the slot of a name is the one that has it
place_apart : (newer : List Slot) (s : Slot) (older : List Slot) (n : Name) → AreApart (slot_names (newer ++ s ∷ older)) → same_name s.name n ≡ true →
    place_at (slot_names (newer ++ s ∷ older)) n ≡ Some (length older)
place_apart [] s older n apart same =
    cond-true (same_name s.name n) (Some (length (slot_names older))) (place_at (slot_names older) n) same ∙ ap (λ size. Some size) (length-map older (λ t. t.name))
place_apart (t ∷ newer) s older n apart same = by_test (same_name t.name n) refl (place_apart newer s older n apart.1 same)
  where
    by_test : (b : Bool) → same_name t.name n ≡ b → place_at (slot_names (newer ++ s ∷ older)) n ≡ Some (length older) →
        cond b (Some (length (slot_names (newer ++ s ∷ older)))) (place_at (slot_names (newer ++ s ∷ older)) n) ≡ Some (length older)
    by_test true here later =
        let none : place_at (slot_names (newer ++ s ∷ older)) n ≡ None = subst (λ m. place_at (slot_names (newer ++ s ∷ older)) m ≡ None) (same_name-true t.name n here) apart.0 in
        absurd (none_or_some none later)
    by_test false other later = later

pub place_near : (items : List Slot) (place : ℕ) (d : Slot) (n : Name) → AreApart (slot_names (reverse items)) → place < length items → same_name (get_or items place d).name n ≡ true →
    place_at (slot_names (reverse items)) n ≡ Some place
place_near items place d n apart inside same =
    let at = split items place d inside in
    ap (λ slots. place_at (slot_names slots) n) at
    ∙ (place_apart (reverse (drop (place + 1) items)) (get_or items place d) (reverse (take place items)) n (subst (λ slots. AreApart (slot_names slots)) at apart) same
    ∙ ap (λ size. Some size) (older_length items place (omega (arith, inside))))

-- the two orders of a comparison agree
pub same_name-sym : (a b : Name) → same_name a b ≡ same_name b a
same_name-sym a b = by_tests (same_name a b) (same_name b a) refl refl
  where
    by_tests : (s t : Bool) → same_name a b ≡ s → same_name b a ≡ t → s ≡ t
    by_tests true true here there = refl
    by_tests false false here there = refl
    by_tests true false here there =
        let back : same_name b a ≡ true = subst (λ m. same_name m a ≡ true) (same_name-true a b here) (same_name-itself a) in
        absurd (both_ways (same_name b a) there back)
    by_tests false true here there =
        let back : same_name a b ≡ true = subst (λ m. same_name m b ≡ true) (same_name-true b a there) (same_name-itself b) in
        absurd (both_ways (same_name a b) here back)
