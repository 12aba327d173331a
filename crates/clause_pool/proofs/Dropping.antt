-- A table without the clauses of some names.
use Rattle.std.proofs.Common.{◌≡◌, ℕ, ◌<◌, ◌^◌, Bool, true, false, not, cond, List, [], ◌∷◌, length, reverse, map, Vec, refl, ap, sym, ◌∙◌, subst, arith}
use Rattle.std.specs.Vec.{with_items}
use Rattle.std.proofs.lemmas.List.{length-map, length-reverse, with_items_is}
use Rattle.lit_base.specs.Literal.{Literal}
use Rattle.lit_base.specs.Held.{HeldClause, is_among, without_names, volume_of}
use Rattle.lit_base.specs.declared.name.Name.{Name}
use Rattle.clause_pool.specs.declared.slot.Slot.{Slot}
use Rattle.clause_pool.specs.Arena.{end_of, IsArena}
use Rattle.clause_pool.specs.Slots.{ends_of, clauses_in, unlinked, kept}
use Rattle.clause_pool.specs.Links.{IsLinked, IsTable}
use Rattle.clause_pool.proofs.Rows.{map-reverse, row_in, ends_relinked, rows_relinked}

kept_first : (b : Bool) (c : HeldClause) (rows : List HeldClause) → cond b rows (c ∷ rows) ≡ cond (not b) (c ∷ rows) rows
kept_first true c rows = refl
kept_first false c rows = refl

-- the clauses whose slot isn't flagged are those without the names
kept_without : (literals : List Literal) (slots : List Slot) (names : List Name) → kept (map (λ s. is_among names s.name) slots) (clauses_in literals slots) ≡ without_names names (clauses_in literals slots)
kept_without literals [] names = refl
kept_without literals (s ∷ older) names =
    let c = row_in literals s (end_of (ends_of older)) in
    kept_first (is_among names s.name) c (kept (map (λ t. is_among names t.name) older) (clauses_in literals older))
    ∙ ap (λ rows. cond (not (is_among names s.name)) (c ∷ rows) rows) (kept_without literals older names)

pub kept_by_names : (literals : List Literal) (items read : List Slot) (flags : List Bool) (names : List Name) → read ≡ items → flags ≡ map (λ s. is_among names s.name) read →
    kept (reverse flags) (clauses_in literals (reverse items)) ≡ without_names names (clauses_in literals (reverse items))
kept_by_names literals items read flags names same are =
    ap (λ fs. kept (reverse fs) (clauses_in literals (reverse items))) (are ∙ ap (map (λ s. is_among names s.name)) same)
    ∙ (ap (λ fs. kept fs (clauses_in literals (reverse items))) (map-reverse (λ s. is_among names s.name) items) ∙ kept_without literals (reverse items) names)

-- the flags of a vector after they were raised and lowered
pub flags_written : {A : Type 0} (v : Vec Bool A) (items read : List Slot) (before after : List Bool) (names : List Name) → read ≡ items → after ≡ map (λ s. is_among names s.name) read → before ≡ v.items →
    length before ≡ v.len → length v.items ≡ length (reverse items) → (with_items v after).items ≡ map (λ s. is_among names s.name) items
flags_written v items read before after names same are befores size flagged =
    let long : length after ≡ length read = ap length are ∙ length-map read (λ s. is_among names s.name) in
    with_items_is v after (omega (arith, long, ap length same, ap length befores, size, flagged, length-reverse items)) ∙ (are ∙ ap (map (λ s. is_among names s.name)) same)

-- what the table keeps once the slots that are left were linked anew
pub table_dropped : (literals : List Literal) (items after : List Slot) (flags : ℕ) (heads : List ℕ) (volume : ℕ) → IsArena literals (ends_of (reverse items)) →
    volume ≡ volume_of (clauses_in literals (reverse items)) → map unlinked after ≡ map unlinked items → flags ≡ length items → (0 < length items → 0 < length heads) →
    (length after < 2 ^ 32 → IsLinked heads (reverse after)) → IsTable literals (reverse after) flags heads volume
table_dropped literals items after flags heads volume arena counted same flagged some linked =
    let size : length after ≡ length items = sym (length-map after unlinked) ∙ (ap length same ∙ length-map items unlinked) in
    record {
      arena = subst (IsArena literals) (sym (ends_relinked items after same)) arena;
      flagged = omega (arith, flagged, size, length-reverse after);
      some = λ slots. some (omega (arith, slots, size, length-reverse after));
      linked = λ few. linked (omega (arith, few, length-reverse after));
      counted = counted ∙ ap volume_of (sym (rows_relinked literals items after same));
    }
