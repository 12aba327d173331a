-- A table with a clause more.
use Rattle.std.proofs.Common.{◌≡◌, ℕ, ◌+◌, ◌<◌, ◌≤◌, ◌^◌, List, [], ◌∷◌, ◌++◌, length, min, take, drop, reverse, get_or, set, map, Vec, ap, sym, ◌∙◌, subst, arith}
use Rattle.std.specs.Prelude.{Result, Ok, Err, OnErr}
use Rattle.std.specs.Vec.{with_items}
use Rattle.std.proofs.lemmas.List.{length-map, length-reverse, length-set, length-take, length-drop, length-append, reverse-append, with_items_is}
use Rattle.lit_base.specs.Literal.{Literal}
use Rattle.lit_base.specs.Held.{HeldClause, is_original, volume_of}
use Rattle.lit_base.specs.declared.name.Name.{Name}
use Rattle.clause_pool.specs.declared.slot.Slot.{Slot}
use Rattle.clause_pool.specs.Arena.{IsArena}
use Rattle.clause_pool.specs.Slots.{ends_of, rows_of, clauses_in, unlinked}
use Rattle.clause_pool.specs.Links.{chain_of, IsLinked, IsTable}
use Rattle.clause_pool.proofs.Volume.{weight_of, volume_of-cons}
use Rattle.clause_pool.proofs.Parts.{parts_added, arena_added}
use Rattle.clause_pool.proofs.Rows.{ends_relinked, rows_relinked}
use Rattle.clause_pool.proofs.Linking.{linked_more}

-- what holds anyway holds after an error
pub on_err : {T E P : Type 0} (r : Result T E) → P → OnErr r P
on_err (Ok x) holds = tt
on_err (Err e) holds = holds

-- the slots of a vector after they were linked anew
pub record IsRelinked {A : Type 0} (v : Vec Slot A) (after items : List Slot) (heads : List ℕ) : Type 0 where
  pub is : (with_items v after).items ≡ after
  pub size : length (with_items v after).items ≡ v.len
  pub same : map unlinked (with_items v after).items ≡ map unlinked items
  pub few : length (with_items v after).items < 2 ^ 32 → IsLinked heads (reverse (with_items v after).items)

pub is_relinked : {A : Type 0} (v : Vec Slot A) (read after items : List Slot) (heads : List ℕ) → map unlinked after ≡ map unlinked read → read ≡ v.items → v.items ≡ items → length read ≡ v.len →
    (length after < 2 ^ 32 → IsLinked heads (reverse after)) → IsRelinked v after items heads
is_relinked v read after items heads same reads kept size linked =
    let long : length after ≡ v.len = sym (length-map after unlinked) ∙ (ap length same ∙ (length-map read unlinked ∙ size)) in
    let is = with_items_is v after long in
    record {
      is = is;
      size = ap length is ∙ long;
      same = ap (map unlinked) is ∙ (same ∙ ap (map unlinked) (reads ∙ kept));
      few = subst (λ xs. length xs < 2 ^ 32 → IsLinked heads (reverse xs)) (sym is) linked;
    }

-- the heads of a vector after a chain began anew
pub heads_written : {A : Type 0} (v : Vec ℕ A) (read after : List ℕ) (chain link : ℕ) → after ≡ set read chain link → read ≡ v.items → length read ≡ v.len →
    (with_items v after).items ≡ set v.items chain link
heads_written v read after chain link is reads size =
    with_items_is v after (ap length is ∙ (length-set read chain link ∙ size)) ∙ (is ∙ ap (λ xs. set xs chain link) reads)

relinked_size : (items after : List Slot) → map unlinked after ≡ map unlinked items → length after ≡ length items
relinked_size items after same = sym (length-map after unlinked) ∙ (ap length same ∙ length-map items unlinked)

-- what the table keeps where slots were linked anew
pub table_relinked : (literals : List Literal) (items after : List Slot) (flags : ℕ) (heads linked_heads : List ℕ) (volume : ℕ) → IsTable literals (reverse items) flags heads volume →
    map unlinked after ≡ map unlinked items → length heads ≤ length linked_heads → (length after < 2 ^ 32 → IsLinked linked_heads (reverse after)) → IsTable literals (reverse after) flags linked_heads volume
table_relinked literals items after flags heads linked_heads volume table same more linked =
    let size = relinked_size items after same in
    record {
      arena = subst (IsArena literals) (sym (ends_relinked items after same)) table.arena;
      flagged = omega (arith, table.flagged, size, length-reverse items, length-reverse after);
      some = λ some. let chains = table.some (omega (arith, some, size, length-reverse items, length-reverse after)) in omega (arith, chains, more);
      linked = λ few. linked (omega (arith, few, length-reverse after));
      counted = table.counted ∙ ap volume_of (sym (rows_relinked literals items after same));
    }

-- the clauses with the new one
pub rows_added : (literals lits : List Literal) (slots : List Slot) (s : Slot) → IsArena literals (ends_of slots) → s.end ≡ length literals + length lits →
    clauses_in (literals ++ lits) (s ∷ slots) ≡ record { name = s.name; lits = lits; uses = s.uses } ∷ clauses_in literals slots
rows_added literals lits slots s arena end = ap (rows_of (s ∷ slots)) (parts_added literals lits (ends_of slots) s.end arena end)

reverse-push : (items more : List Slot) (s : Slot) → more ≡ items ++ s ∷ [] → reverse more ≡ s ∷ reverse items
reverse-push items more s is = ap reverse is ∙ reverse-append items (s ∷ [])

-- the parts of a table before and after a clause was added: the slots were linked anew before
pub record IsAdded (literals grown lits : List Literal) (items linked more : List Slot) (heads after : List ℕ) (s : Slot) : Type 0 where
  pub literals_are : grown ≡ literals ++ lits
  pub same : map unlinked linked ≡ map unlinked items
  pub slots_are : more ≡ linked ++ s ∷ []
  pub end : s.end ≡ length literals + length lits
  pub few : length linked < 2 ^ 32 → IsLinked heads (reverse linked)
  pub within : length linked + 1 < 2 ^ 32 → chain_of (length heads) s.name < length heads
  pub link : length linked + 1 < 2 ^ 32 → s.link ≡ get_or heads (chain_of (length heads) s.name) 0
  pub heads_are : length linked + 1 < 2 ^ 32 → after ≡ set heads (chain_of (length heads) s.name) (length linked + 1)

-- the clauses afterwards
pub rows_after : (literals grown lits : List Literal) (items linked more : List Slot) (heads after : List ℕ) (s : Slot) → IsArena literals (ends_of (reverse items)) →
    IsAdded literals grown lits items linked more heads after s →
    clauses_in grown (reverse more) ≡ record { name = s.name; lits = lits; uses = s.uses } ∷ clauses_in literals (reverse items)
rows_after literals grown lits items linked more heads after s arena added =
    ap (λ xs. clauses_in xs (reverse more)) added.literals_are
    ∙ (ap (λ slots. clauses_in (literals ++ lits) slots) (reverse-push linked more s added.slots_are)
    ∙ (rows_added literals lits (reverse linked) s (subst (IsArena literals) (sym (ends_relinked items linked added.same)) arena) added.end
    ∙ ap (λ rows. let c : HeldClause = record { name = s.name; lits = lits; uses = s.uses } in c ∷ rows) (rows_relinked literals items linked added.same)))

-- what the table keeps afterwards
pub table_after : (literals grown lits : List Literal) (items linked more : List Slot) (flags : ℕ) (kept heads after : List ℕ) (s : Slot) (volume weight : ℕ) →
    IsTable literals (reverse items) flags kept volume → IsAdded literals grown lits items linked more heads after s → 0 < length after → weight ≡ weight_of (is_original s.name) →
    IsTable grown (reverse more) (flags + 1) after (volume + weight)
table_after literals grown lits items linked more flags kept heads after s volume weight table added some counts =
    let arena = subst (IsArena literals) (sym (ends_relinked items linked added.same)) table.arena in
    let size = relinked_size items linked added.same in
    let turned = reverse-push linked more s added.slots_are in
    let rows = rows_after literals grown lits items linked more heads after s table.arena added in
    let count = volume_of-cons (record { name = s.name; lits = lits; uses = s.uses }) (clauses_in literals (reverse items)) in
    let total : volume_of (clauses_in grown (reverse more)) ≡ volume_of (clauses_in literals (reverse items)) + weight_of (is_original s.name) = ap volume_of rows ∙ count in
    record {
      arena = subst (λ xs. IsArena xs (ends_of (reverse more))) (sym added.literals_are)
          (subst (λ slots. IsArena (literals ++ lits) (ends_of slots)) (sym turned) (arena_added literals lits (ends_of (reverse linked)) s.end arena added.end));
      flagged = omega (arith, table.flagged, size, length-reverse items, length-reverse linked, ap length turned);
      some = λ slots. some;
      linked = λ few.
          let inside : length linked + 1 < 2 ^ 32 = omega (arith, few, ap length turned, length-reverse linked) in
          subst (IsLinked after) (sym turned)
          (linked_more heads after (reverse linked) s (added.few (omega (arith, inside))) (added.within inside) (added.link inside)
          (added.heads_are inside ∙ ap (λ n. set heads (chain_of (length heads) s.name) (n + 1)) (sym (length-reverse linked))));
      counted = omega (arith, table.counted, total, counts);
    }

-- a vector that was written to is as long as before
pub long_as_before : {A : Type 0} (v : Vec ℕ A) (after : List ℕ) → length v.items ≡ v.len → length (with_items v after).items ≡ v.len
long_as_before v after size =
    let all : length (take v.len (after ++ drop (length after) v.items)) ≡ min v.len (length (after ++ drop (length after) v.items)) = length-take v.len (after ++ drop (length after) v.items) in
    omega (arith, all, length-append after (drop (length after) v.items), length-drop (length after) v.items, size)

-- what the steps of adding say together
pub is_added : {A B : Type 0} (v : Vec Slot A) (hv : Vec ℕ B) (literals room grown lits : List Literal) (items after more : List Slot) (heads_read began : List ℕ) (name : Name) (link end place : ℕ) →
    IsRelinked v after items hv.items → room ≡ literals → grown ≡ room ++ lits → end ≡ length room + length lits →
    more ≡ (with_items v after).items ++ record { name = name; link = link; end = end; uses = 0 } ∷ [] → place ≡ length (with_items v after).items →
    (place + 1 < 2 ^ 32 → chain_of (length heads_read) name < length heads_read) → (place + 1 < 2 ^ 32 → link ≡ get_or heads_read (chain_of (length heads_read) name) 0) →
    (place + 1 < 2 ^ 32 → began ≡ set heads_read (chain_of (length heads_read) name) (place + 1)) → heads_read ≡ hv.items → length heads_read ≡ hv.len →
    IsAdded literals grown lits items (with_items v after).items more hv.items (with_items hv began).items (record { name = name; link = link; end = end; uses = 0 })
is_added v hv literals room grown lits items after more heads_read began name link end place relinked rooms grows ends pushes places within links heads reads size = record {
  literals_are = grows ∙ ap (λ xs. xs ++ lits) rooms;
  same = relinked.same;
  slots_are = pushes;
  end = ends ∙ ap (λ xs. length xs + length lits) rooms;
  few = relinked.few;
  within = λ inside. subst (λ hs. chain_of (length hs) name < length hs) reads (within (omega (arith, inside, places)));
  link = λ inside. links (omega (arith, inside, places)) ∙ ap (λ hs. get_or hs (chain_of (length hs) name) 0) reads;
  heads_are = λ inside.
      heads_written hv heads_read began (chain_of (length heads_read) name) (place + 1) (heads (omega (arith, inside, places))) reads size
      ∙ (ap (λ hs. set hv.items (chain_of (length hs) name) (place + 1)) reads ∙ ap (λ p. set hv.items (chain_of (length hv.items) name) (p + 1)) places);
}
