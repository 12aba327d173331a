-- Slots whose uses were counted or cleared.
use Rattle.std.proofs.Common.{◌≡◌, ℕ, suc, ◌+◌, ◌<◌, ◌==◌, Bool, true, false, not, cond, List, [], ◌∷◌, ◌++◌, length, take, drop, reverse, get_or, set, map, Vec, refl, ap, sym, ◌∙◌, subst, arith}
use Rattle.std.specs.Prelude.{filter}
use Rattle.std.specs.Vec.{with_items}
use Rattle.std.proofs.lemmas.Bool.{cond-true, cond-false, eq-eqb, ne_eqb}
use Rattle.std.proofs.lemmas.List.{length-append, length-map, append_assoc, reverse-append, set_split, map-set, set-get_or, get_or-map, with_items_is}
use mathlib.Core.List.{reverse-cons}
use Rattle.lit_base.specs.Literal.{Literal}
use Rattle.lit_base.specs.Held.{HeldClause, is_original, volume_of}
use Rattle.lit_base.specs.declared.name.Name.{Name}
use Rattle.clause_pool.specs.declared.slot.Slot.{Slot}
use Rattle.clause_pool.specs.Arena.{end_of, parts_of, IsArena}
use Rattle.clause_pool.specs.Slots.{ends_of, rows_of, clauses_in, slot_names, row_names, without_count, counted_at}
use Rattle.clause_pool.specs.Links.{chain_of, head_in, AreLinks, IsLinked, IsTable}
use Rattle.clause_pool.specs.Uses.{cleared}
use Rattle.clause_pool.proofs.Splits.{split, older_length}
use Rattle.clause_pool.proofs.Rows.{map-reverse, names_in, rows_length, row_in}

ends_without : (slots : List Slot) → ends_of (map without_count slots) ≡ ends_of slots
ends_without [] = refl
ends_without (s ∷ older) = ap (λ ends. s.end ∷ ends) (ends_without older)

names_without : (slots : List Slot) → slot_names (map without_count slots) ≡ slot_names slots
names_without [] = refl
names_without (s ∷ older) = ap (λ names. s.name ∷ names) (names_without older)

head_without : (count chain : ℕ) (slots : List Slot) → head_in count chain (map without_count slots) ≡ head_in count chain slots
head_without count chain [] = refl
head_without count chain (s ∷ older) =
    ap (λ size. cond (chain_of count s.name == chain) (size + 1) (head_in count chain (map without_count older))) (length-map older without_count)
    ∙ ap (λ link. cond (chain_of count s.name == chain) (length older + 1) link) (head_without count chain older)

links_without : (count : ℕ) (slots : List Slot) → AreLinks count slots → AreLinks count (map without_count slots)
links_without count [] links = tt
links_without count (s ∷ older) links = (links.0 ∙ sym (head_without count (chain_of count s.name) older), links_without count older links.1)

links_with : (count : ℕ) (slots : List Slot) → AreLinks count (map without_count slots) → AreLinks count slots
links_with count [] links = tt
links_with count (s ∷ older) links = (links.0 ∙ head_without count (chain_of count s.name) older, links_with count older links.1)

linked_recounted : (heads : List ℕ) (slots after : List Slot) → map without_count after ≡ map without_count slots → IsLinked heads slots → IsLinked heads after
linked_recounted heads slots after same linked =
    let size : length after ≡ length slots = sym (length-map after without_count) ∙ (ap length same ∙ length-map slots without_count) in
    record {
      some = λ some. linked.some (omega (arith, some, size));
      heads_are = λ chain below.
          linked.heads_are chain below
          ∙ (sym (head_without (length heads) chain slots) ∙ (ap (head_in (length heads) chain) (sym same) ∙ head_without (length heads) chain after));
      links = links_with (length heads) after (subst (AreLinks (length heads)) (sym same) (links_without (length heads) slots linked.links));
    }

-- the number of lemmas among names
lemmas_of : List Name → ℕ
lemmas_of names = length (filter (λ n. not (is_original n)) names)

lemmas_first : (b : Bool) (c : HeldClause) (n : Name) (rows : List HeldClause) (names : List Name) → length rows ≡ length names → length (cond b (c ∷ rows) rows) ≡ length (cond b (n ∷ names) names)
lemmas_first true c n rows names same = omega (arith, same)
lemmas_first false c n rows names same = same

volume_of-names : (rows : List HeldClause) → volume_of rows ≡ lemmas_of (row_names rows)
unfolding lemmas_of
volume_of-names [] = refl
volume_of-names (c ∷ older) =
    lemmas_first (not (is_original c.name)) c c.name (filter (λ d. not (is_original d.name)) older) (filter (λ n. not (is_original n)) (row_names older)) (volume_of-names older)

-- clauses of the same names have as many lemmas
pub volume_same : (rows others : List HeldClause) → row_names rows ≡ row_names others → volume_of rows ≡ volume_of others
volume_same rows others same = volume_of-names rows ∙ (ap lemmas_of same ∙ sym (volume_of-names others))

-- what the table keeps where uses alone changed
pub table_recounted : (literals : List Literal) (slots after : List Slot) (flags : ℕ) (heads : List ℕ) (volume : ℕ) → map without_count after ≡ map without_count slots →
    IsTable literals slots flags heads volume → IsTable literals after flags heads volume
table_recounted literals slots after flags heads volume same table =
    let size : length after ≡ length slots = sym (length-map after without_count) ∙ (ap length same ∙ length-map slots without_count) in
    let ends : ends_of after ≡ ends_of slots = sym (ends_without after) ∙ (ap ends_of same ∙ ends_without slots) in
    let names : slot_names after ≡ slot_names slots = sym (names_without after) ∙ (ap slot_names same ∙ names_without slots) in
    record {
      arena = subst (λ es. IsArena literals es) (sym ends) table.arena;
      flagged = table.flagged ∙ sym size;
      some = λ some. table.some (omega (arith, some, size));
      linked = λ few. linked_recounted heads slots after same (table.linked (omega (arith, few, size)));
      counted = table.counted ∙ volume_same (clauses_in literals slots) (clauses_in literals after) (names_in literals slots ∙ (sym names ∙ sym (names_in literals after)));
    }

-- a use more of one slot
abbrev pub one_more : Slot → Slot
one_more s = record s { uses = s.uses + 1 }

pub recounted_at : (items : List Slot) (place : ℕ) (d : Slot) → place < length items → map without_count (reverse (set items place (one_more (get_or items place d)))) ≡ map without_count (reverse items)
recounted_at items place d inside =
    sym (map-reverse without_count (set items place (one_more (get_or items place d))))
    ∙ (ap reverse
    (map-set without_count items place (one_more (get_or items place d))
    ∙ (ap (λ s. set (map without_count items) place s) (sym (get_or-map without_count items place d d inside)) ∙ set-get_or (map without_count items) place d))
    ∙ map-reverse without_count items)

set_turned : (items : List Slot) (place : ℕ) (s : Slot) → place < length items → reverse (set items place s) ≡ reverse (drop (place + 1) items) ++ s ∷ reverse (take place items)
set_turned items place s inside =
    let whole : set items place s ≡ take place items ++ s ∷ drop (place + 1) items = set_split items place s inside ∙ ap (λ k. take place items ++ s ∷ drop k items) {x = suc place} {y = place + 1} (omega arith) in
    ap reverse whole
    ∙ (reverse-append (take place items) (s ∷ drop (place + 1) items)
    ∙ (ap (λ xs. xs ++ reverse (take place items)) (reverse-cons s (drop (place + 1) items)) ∙ append_assoc (reverse (drop (place + 1) items)) (s ∷ []) (reverse (take place items))))

ends_at : (newer : List Slot) (s : Slot) (older : List Slot) → ends_of (newer ++ one_more s ∷ older) ≡ ends_of (newer ++ s ∷ older)
ends_at [] s older = refl
ends_at (t ∷ newer) s older = ap (λ ends. t.end ∷ ends) (ends_at newer s older)

counted_in : (literals : List Literal) (newer : List Slot) (s : Slot) (older : List Slot) →
    counted_at (length older) (clauses_in literals (newer ++ s ∷ older)) ≡ clauses_in literals (newer ++ one_more s ∷ older)
counted_in literals [] s older =
    cond-true (length older == length (clauses_in literals older)) _ _ (eq-eqb (length older) (length (clauses_in literals older)) (sym (rows_length literals older)))
counted_in literals (t ∷ newer) s older =
    cond-false (length older == length (clauses_in literals (newer ++ s ∷ older))) _ _
    (ne_eqb (length older) (length (clauses_in literals (newer ++ s ∷ older)))
    (λ same. let size : length (clauses_in literals (newer ++ s ∷ older)) ≡ length newer + length (s ∷ older) = rows_length literals (newer ++ s ∷ older) ∙ length-append newer (s ∷ older) in
    omega (arith, same, size)))
    ∙ (ap (λ rows. row_in literals t (end_of (ends_of (newer ++ s ∷ older))) ∷ rows) (counted_in literals newer s older)
    ∙ ap (λ ends. row_in literals t (end_of ends) ∷ clauses_in literals (newer ++ one_more s ∷ older)) (sym (ends_at newer s older)))

-- the clauses with a use more of one
pub rows_counted : (literals : List Literal) (items : List Slot) (place : ℕ) (d : Slot) → place < length items →
    clauses_in literals (reverse (set items place (one_more (get_or items place d)))) ≡ counted_at place (clauses_in literals (reverse items))
rows_counted literals items place d inside =
    let newer = reverse (drop (place + 1) items) in
    let older = reverse (take place items) in
    ap (clauses_in literals) (set_turned items place (one_more (get_or items place d)) inside)
    ∙ (sym (counted_in literals newer (get_or items place d) older)
    ∙ (ap (λ size. counted_at size (clauses_in literals (newer ++ get_or items place d ∷ older))) (older_length items place (omega (arith, inside)))
    ∙ ap (λ slots. counted_at place (clauses_in literals slots)) (sym (split items place d inside))))

rows_cleared : (slots : List Slot) (parts : List (List Literal)) → rows_of (map without_count slots) parts ≡ cleared (rows_of slots parts)
rows_cleared [] parts = refl
rows_cleared (s ∷ older) [] = refl
rows_cleared (s ∷ older) (lits ∷ parts) =
    ap (λ rows. let c : HeldClause = record { name = s.name; lits = lits; uses = 0 } in c ∷ rows) (rows_cleared older parts)

-- the clauses without uses
pub clauses_cleared : (literals : List Literal) (slots : List Slot) → clauses_in literals (map without_count slots) ≡ cleared (clauses_in literals slots)
clauses_cleared literals slots =
    rows_cleared slots (parts_of literals (ends_of (map without_count slots))) ∙ ap (λ ends. cleared (rows_of slots (parts_of literals ends))) (ends_without slots)

-- the slots of a vector after all of them were cleared
pub cleared_slots : {A : Type 0} (slots : Vec Slot A) (read after : List Slot) → after ≡ map without_count read → read ≡ slots.items → length read ≡ slots.len →
    reverse (with_items slots after).items ≡ map without_count (reverse slots.items)
cleared_slots slots read after are same size =
    let long : length after ≡ slots.len = ap length are ∙ (length-map read without_count ∙ size) in
    ap reverse (with_items_is slots after long ∙ (are ∙ ap (map without_count) same)) ∙ map-reverse without_count slots.items

pub recleared : (slots : List Slot) → map without_count (map without_count slots) ≡ map without_count slots
recleared [] = refl
recleared (s ∷ older) = ap (λ others. without_count s ∷ others) (recleared older)
