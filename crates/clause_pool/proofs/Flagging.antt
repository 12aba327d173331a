-- Flags for the slots with one of some names.
use Rattle.std.proofs.Common.{◌≡◌, ℕ, ◌+◌, ◌<◌, ◌⊎◌, inl, inr, Bool, true, false, cond, ◌||◌, List, [], ◌∷◌, ◌++◌, length, take, drop, reverse, replicate, get_or, set, map, refl, ap, sym, ◌∙◌, subst, arith}
use Rattle.std.specs.Prelude.{Some, None}
use Rattle.std.proofs.lemmas.Bool.{cases_eq}
use Rattle.std.proofs.lemmas.Option.{same_Some}
use Rattle.std.proofs.lemmas.List.{take_more, same_lists, get_or-map, length-map, length-set, length-replicate, get_or-set_same, get_or-set_other, drop_more, set_at, replicate_more, append_assoc}
use Rattle.std.proofs.lemmas.List.Folds.{list_any-append}
use Rattle.lit_base.specs.Named.{same_name}
use Rattle.lit_base.specs.Held.{is_among}
use Rattle.lit_base.specs.declared.name.Name.{Name}
use Rattle.clause_pool.specs.declared.slot.Slot.{Slot}
use Rattle.clause_pool.specs.Slots.{slot_names, place_at, AreApart}
use Rattle.clause_pool.proofs.Splits.{split, split_read}
use Rattle.clause_pool.proofs.Following.{blank}
use Rattle.clause_pool.proofs.Placing.{place_near, same_name-sym}

-- one item more is the same as the ones before
pub filled_more : {X : Type 0} (items before : List X) (i : ℕ) (y d : X) → i < length before → items ≡ replicate i y ++ drop i before → set items i y ≡ replicate (i + 1) y ++ drop (i + 1) before
filled_more items before i y d inside is =
    ap (λ xs. set xs i y) (is ∙ ap (λ xs. replicate i y ++ xs) (drop_more before i d inside))
    ∙ (set_at (replicate i y) (get_or before i d) (drop (i + 1) before) y i (length-replicate i y)
    ∙ (sym (append_assoc (replicate i y) (y ∷ []) (drop (i + 1) before)) ∙ ap (λ xs. xs ++ drop (i + 1) before) (replicate_more i y)))

-- no slot has one of no names
pub flagged_none : (slots : List Slot) → replicate (length slots) false ≡ map (λ s. is_among [] s.name) slots
flagged_none [] = refl
flagged_none (s ∷ later) = ap (λ flags. false ∷ flags) (flagged_none later)

-- the slot at the place of a name
record IsFound (slots : List Slot) (n : Name) (place : ℕ) : Type 0 where
  pub newer : List Slot
  pub s : Slot
  pub older : List Slot
  pub is : slots ≡ newer ++ s ∷ older
  pub size : length older ≡ place
  pub same : same_name s.name n ≡ true

found_later : (s : Slot) (older : List Slot) (n : Name) (place : ℕ) → IsFound older n place → IsFound (s ∷ older) n place
found_later s older n place later = record {
  newer = s ∷ later.newer;
  s = later.s;
  older = later.older;
  is = ap (λ slots. s ∷ slots) later.is;
  size = later.size;
  same = later.same;
}

found : (slots : List Slot) (n : Name) (place : ℕ) → place_at (slot_names slots) n ≡ Some place → IsFound slots n place
found [] n place is = cc
found (s ∷ older) n place is = by_test (same_name s.name n) refl is (found older n place)
  where
    by_test : (b : Bool) → same_name s.name n ≡ b → cond b (Some (length (slot_names older))) (place_at (slot_names older) n) ≡ Some place →
        (place_at (slot_names older) n ≡ Some place → IsFound older n place) → IsFound (s ∷ older) n place
    by_test true here is later = record {
      newer = [];
      s = s;
      older = older;
      is = refl;
      size = sym (length-map older (λ t. t.name)) ∙ same_Some (length (slot_names older)) place is;
      same = here;
    }
    by_test false other is later = found_later s older n place (later is)

-- it has the name
pub found_at : (items : List Slot) (n : Name) (place : ℕ) (d : Slot) → place_at (slot_names (reverse items)) n ≡ Some place → (place < length items) × (same_name (get_or items place d).name n ≡ true)
found_at items n place d is =
    let here = found (reverse items) n place is in
    let at = split_read items here.newer here.older here.s place here.is here.size in
    (at.within, ap (λ s. same_name s.name n) (at.read d) ∙ here.same)

none_in : (newer : List Slot) (s : Slot) (older : List Slot) (n : Name) → place_at (slot_names (newer ++ s ∷ older)) n ≡ None → same_name s.name n ≡ false
none_in [] s older n none = by_test (same_name s.name n) none
  where
    by_test : (b : Bool) → cond b (Some (length (slot_names older))) (place_at (slot_names older) n) ≡ None → b ≡ false
    by_test true none = cc
    by_test false none = refl
none_in (t ∷ newer) s older n none = by_test (same_name t.name n) none (none_in newer s older n)
  where
    by_test : (b : Bool) → cond b (Some (length (slot_names (newer ++ s ∷ older)))) (place_at (slot_names (newer ++ s ∷ older)) n) ≡ None →
        (place_at (slot_names (newer ++ s ∷ older)) n ≡ None → same_name s.name n ≡ false) → same_name s.name n ≡ false
    by_test true none later = cc
    by_test false none later = later none

-- a name without a place is that of no slot
none_at : (items : List Slot) (n : Name) (i : ℕ) (d : Slot) → place_at (slot_names (reverse items)) n ≡ None → i < length items → same_name (get_or items i d).name n ≡ false
none_at items n i d none inside =
    none_in (reverse (drop (i + 1) items)) (get_or items i d) (reverse (take i items)) n (subst (λ slots. place_at (slot_names slots) n ≡ None) (split items i d inside) none)

-- a name with a place is that of no other slot
other_at : (items : List Slot) (n : Name) (place i : ℕ) (d : Slot) → AreApart (slot_names (reverse items)) → place_at (slot_names (reverse items)) n ≡ Some place → i < length items → (i ≡ place → ⊥) →
    same_name (get_or items i d).name n ≡ false
other_at items n place i d apart is inside other = by_test (same_name (get_or items i d).name n) refl
  where
    by_test : (b : Bool) → same_name (get_or items i d).name n ≡ b → b ≡ false
    by_test true same = absurd (other (same_Some i place (sym (place_near items i d n apart inside same) ∙ is)))
    by_test false differ = refl

or_none : (a b : Bool) → (a || (b || false)) ≡ (a || b)
or_none true b = refl
or_none false true = refl
or_none false false = refl

or_false : (a : Bool) → (a || false) ≡ a
or_false true = refl
or_false false = refl

-- a name is among the first ones with one more
among_more : (names : List Name) (k : ℕ) (d m : Name) → k < length names → is_among (take (k + 1) names) m ≡ (is_among (take k names) m || same_name (get_or names k d) m)
among_more names k d m inside =
    ap (λ ns. is_among ns m) (take_more names k d inside)
    ∙ (list_any-append (λ n. same_name n m) (take k names) (get_or names k d ∷ []) ∙ or_none (is_among (take k names) m) (same_name (get_or names k d) m))

among_differ : (names : List Name) (k : ℕ) (d m : Name) → k < length names → same_name m (get_or names k d) ≡ false → is_among (take k names) m ≡ is_among (take (k + 1) names) m
among_differ names k d m inside differ =
    sym (among_more names k d m inside ∙ (ap (λ b. is_among (take k names) m || b) (same_name-sym (get_or names k d) m ∙ differ) ∙ or_false (is_among (take k names) m)))

among_same : (names : List Name) (k : ℕ) (d m : Name) → k < length names → same_name m (get_or names k d) ≡ true → is_among (take (k + 1) names) m ≡ true
among_same names k d m inside same = among_more names k d m inside ∙ (ap (λ b. is_among (take k names) m || b) (same_name-sym (get_or names k d) m ∙ same) ∙ or_true (is_among (take k names) m))
  where
    or_true : (a : Bool) → (a || true) ≡ true
    or_true true = refl
    or_true false = refl

-- whether each slot has one of the first names
abbrev pub flags_for : List Name → ℕ → List Slot → List Bool
flags_for names k items = map (λ s. is_among (take k names) s.name) items

-- a name without a place changes no flag
pub flagged_over : (items : List Slot) (names : List Name) (k : ℕ) (d : Name) (flags : List Bool) → k < length names → flags ≡ flags_for names k items →
    place_at (slot_names (reverse items)) (get_or names k d) ≡ None → flags ≡ flags_for names (k + 1) items
flagged_over items names k d flags inside are none =
    are
    ∙ same_lists (flags_for names k items) (flags_for names (k + 1) items) (length-map items _ ∙ sym (length-map items _))
    (λ i b below.
    let here : i < length items = omega (arith, below, length-map items (λ s. is_among (take k names) s.name)) in
    get_or-map (λ s. is_among (take k names) s.name) items i blank b here
    ∙ (among_differ names k d (get_or items i blank).name inside (none_at items (get_or names k d) i blank none here)
    ∙ sym (get_or-map (λ s. is_among (take (k + 1) names) s.name) items i blank b here)))

-- the slot of a name is flagged
pub flagged_at : (items : List Slot) (names : List Name) (k : ℕ) (d : Name) (flags : List Bool) (place : ℕ) → k < length names → flags ≡ flags_for names k items → AreApart (slot_names (reverse items)) →
    place_at (slot_names (reverse items)) (get_or names k d) ≡ Some place → set flags place true ≡ flags_for names (k + 1) items
flagged_at items names k d flags place inside are apart is =
    ap (λ fs. set fs place true) are
    ∙ same_lists (set (flags_for names k items) place true) (flags_for names (k + 1) items)
    (length-set (flags_for names k items) place true ∙ (length-map items _ ∙ sym (length-map items _)))
    (λ i b below.
    let size : length (set (flags_for names k items) place true) ≡ length items = length-set (flags_for names k items) place true ∙ length-map items _ in
    let here : i < length items = omega (arith, below, size) in
    by_case i b here (cases_eq i place)
    ∙ sym (get_or-map (λ s. is_among (take (k + 1) names) s.name) items i blank b here))
  where
    by_case : (i : ℕ) (b : Bool) → i < length items → (i ≡ place) ⊎ (i ≡ place → ⊥) → get_or (set (flags_for names k items) place true) i b ≡ is_among (take (k + 1) names) (get_or items i blank).name
    by_case i b here (inl at) =
        let named = found_at items (get_or names k d) place blank is in
        let within : place < length (flags_for names k items) = omega (arith, named.0, length-map items (λ s. is_among (take k names) s.name)) in
        ap (λ p. get_or (set (flags_for names k items) place true) p b) at
        ∙ (get_or-set_same (flags_for names k items) place true b within
        ∙ (sym (among_same names k d (get_or items place blank).name inside named.1) ∙ ap (λ p. is_among (take (k + 1) names) (get_or items p blank).name) (sym at)))
    by_case i b here (inr other) =
        get_or-set_other (flags_for names k items) place i true b other
        ∙ (get_or-map (λ s. is_among (take k names) s.name) items i blank b here
        ∙ among_differ names k d (get_or items i blank).name inside (other_at items (get_or names k d) place i blank apart is here other))
