-- Taking slots out, and moving the literals of the others together.
use Rattle.std.proofs.Common.{◌≡◌, ℕ, ◌+◌, ◌-◌, ◌<◌, ◌≤◌, Bool, true, false, List, [], ◌∷◌, ◌++◌, length, take, drop, reverse, get_or, set, refl, ap, sym, ◌∙◌, subst, arith}
use Rattle.std.specs.Prelude.{slice_range}
use Rattle.std.specs.List.{copy_within}
use Rattle.std.proofs.lemmas.List.{take-take, take_all, take_at, drop_at, drop-drop, drop-set-lt, take_more_set, length-take, length-take-le, length-drop, length-set, length-append, reverse-append, append_assoc, get_or-drop, get_or_default}
use Rattle.lit_base.specs.Literal.{Literal}
use Rattle.lit_base.specs.Held.{HeldClause, is_original, volume_of}
use Rattle.clause_pool.specs.declared.slot.Slot.{Slot}
use Rattle.clause_pool.specs.Arena.{end_of, parts_of, AreEnds, IsArena}
use Rattle.clause_pool.specs.Slots.{ends_of, rows_of, clauses_in, kept}
use Rattle.clause_pool.proofs.Volume.{weight_of, volume_of-cons}
use Rattle.clause_pool.proofs.Splits.{newest}
use Rattle.clause_pool.proofs.Parts.{parts_same}
use Rattle.clause_pool.proofs.Rows.{row_in, IsRow, is_row}

-- the slots before a place were looked at, and those to keep stand packed; what lies behind is as it was
pub record IsPacking (arena : List Literal) (items : List Slot) (flags : List Bool) (literals : List Literal) (slots : List Slot) (place packed end from volume : ℕ) : Type 0 where
  pub size : length slots ≡ length items
  pub long : length literals ≡ length arena
  pub few : packed ≤ place
  pub short : end ≤ from
  pub begin : from ≡ end_of (ends_of (reverse (take place items)))
  pub slots_left : drop place slots ≡ drop place items
  pub literals_left : drop from literals ≡ drop from arena
  pub ordered : AreEnds (ends_of (reverse (take packed slots)))
  pub full : end_of (ends_of (reverse (take packed slots))) ≡ end
  pub rows : clauses_in literals (reverse (take packed slots)) ≡ kept (reverse (take place flags)) (clauses_in arena (reverse (take place items)))
  pub counted : volume ≡ volume_of (clauses_in literals (reverse (take packed slots)))

-- at first none was looked at
pub packing_begins : (arena : List Literal) (items : List Slot) (flags : List Bool) → IsPacking arena items flags arena items 0 0 0 0 0
packing_begins arena items flags = record {
  size = refl;
  long = refl;
  few = omega arith;
  short = omega arith;
  begin = refl;
  slots_left = refl;
  literals_left = refl;
  ordered = tt;
  full = refl;
  rows = refl;
  counted = refl;
}

-- the slot at the place is the one from before
pub slot_left : (slots items : List Slot) (place : ℕ) (d : Slot) → drop place slots ≡ drop place items → get_or slots place d ≡ get_or items place d
slot_left slots items place d left =
    ap (λ p. get_or slots p d) {x = place} {y = place + 0} (omega arith)
    ∙ (sym (get_or-drop place slots 0 d) ∙ (ap (λ xs. get_or xs 0 d) left ∙ (get_or-drop place items 0 d ∙ ap (λ p. get_or items p d) {x = place + 0} {y = place} (omega arith))))

left_more : {X : Type 0} (xs ys : List X) (from to : ℕ) → from ≤ to → drop from xs ≡ drop from ys → drop to xs ≡ drop to ys
left_more xs ys from to order left =
    ap (λ n. drop n xs) {x = to} {y = from + (to - from)} (omega (arith, order))
    ∙ (sym (drop-drop (to - from) from xs) ∙ (ap (drop (to - from)) left ∙ (drop-drop (to - from) from ys ∙ ap (λ n. drop n ys) {x = from + (to - from)} {y = to} (omega (arith, order)))))

-- what is known of the slot at the place
pub record IsNext (arena : List Literal) (items : List Slot) (flags : List Bool) (place from : ℕ) (s : Slot) (flag : Bool) : Type 0 where
  pub inside : place < length items
  pub slot : (d : Slot) → s ≡ get_or items place d
  pub flag_is : reverse (take (place + 1) flags) ≡ flag ∷ reverse (take place flags)
  pub order : from ≤ s.end
  pub within : s.end ≤ length arena

pub is_next : (arena : List Literal) (items : List Slot) (flags : List Bool) (literals : List Literal) (slots : List Slot) (place packed end from volume : ℕ) (s : Slot) (d b : Bool) →
    IsPacking arena items flags literals slots place packed end from volume → IsArena arena (ends_of (reverse items)) → length flags ≡ length items → place < length items → s ≡ get_or slots place s →
    get_or flags place d ≡ b → IsNext arena items flags place from s b
is_next arena items flags literals slots place packed end from volume s d b packing full size inside read flag =
    let kept : s ≡ get_or items place s = read ∙ slot_left slots items place s packing.slots_left in
    let row = subst (IsRow arena items place) (sym kept) (is_row arena items place s full inside) in
    record {
      inside = inside;
      slot = λ e. kept ∙ get_or_default items place s e inside;
      flag_is = newest flags place d (omega (arith, inside, size)) ∙ ap (λ f. f ∷ reverse (take place flags)) flag;
      order = omega (arith, row.order, packing.begin);
      within = row.within;
    }

-- a slot that is taken out is passed over
pub packing_over : (arena : List Literal) (items : List Slot) (flags : List Bool) (literals : List Literal) (slots : List Slot) (place packed end from volume : ℕ) (s : Slot) →
    IsPacking arena items flags literals slots place packed end from volume → IsNext arena items flags place from s true →
    IsPacking arena items flags literals slots (place + 1) packed end s.end volume
packing_over arena items flags literals slots place packed end from volume s packing next =
    let more : reverse (take (place + 1) items) ≡ s ∷ reverse (take place items) = newest items place s next.inside ∙ ap (λ t. t ∷ reverse (take place items)) (sym (next.slot s)) in
    record {
      size = packing.size;
      long = packing.long;
      few = omega (arith, packing.few);
      short = omega (arith, packing.short, next.order);
      begin = ap (λ xs. end_of (ends_of xs)) (sym more);
      slots_left = left_more slots items place (place + 1) (omega arith) packing.slots_left;
      literals_left = left_more literals arena from s.end next.order packing.literals_left;
      ordered = packing.ordered;
      full = packing.full;
      rows = packing.rows
          ∙ (ap (λ fs. kept fs (clauses_in arena (s ∷ reverse (take place items)))) (sym next.flag_is)
          ∙ ap (λ xs. kept (reverse (take (place + 1) flags)) (clauses_in arena xs)) (sym more));
      counted = packing.counted;
    }

-- the literals after those of a slot were moved
pub record IsMoved (literals after : List Literal) (start to end : ℕ) : Type 0 where
  pub long : length after ≡ length literals
  pub front : take end after ≡ take end literals
  pub moved : slice_range after end (end + (to - start)) ≡ slice_range literals start to
  pub left : drop to after ≡ drop to literals

pub is_moved : (literals after : List Literal) (start to end : ℕ) → end ≤ start → start ≤ to → to ≤ length literals → after ≡ copy_within literals start to end → IsMoved literals after start to end
is_moved literals after start to end low order within is =
    let part = take (to - start) (drop start literals) in
    let behind = drop (end + (to - start)) literals in
    let front : length (take end literals) ≡ end = length-take-le end literals (omega (arith, low, order, within)) in
    let size : length part ≡ to - start = length-take-le (to - start) (drop start literals) (omega (arith, order, within, length-drop start literals)) in
    let tail : length behind ≡ length literals - (end + (to - start)) = length-drop (end + (to - start)) literals in
    let joined : length (part ++ behind) ≡ length part + length behind = length-append part behind in
    let whole : after ≡ take end literals ++ (part ++ behind) = is ∙ append_assoc (take end literals) part behind in
    let total : length after ≡ length (take end literals) + length (part ++ behind) = ap length whole ∙ length-append (take end literals) (part ++ behind) in
    let past : drop (end + (to - start)) after ≡ behind =
    ap (drop (end + (to - start))) whole
    ∙ (sym (drop-drop (to - start) end (take end literals ++ (part ++ behind)))
    ∙ (ap (drop (to - start)) (drop_at (take end literals) (part ++ behind) end front) ∙ drop_at part behind (to - start) size)) in
    record {
      long = omega (arith, total, front, size, tail, joined, low, order, within);
      front = ap (take end) whole ∙ take_at (take end literals) (part ++ behind) end front;
      moved = ap (λ n. take n (drop end after)) {x = end + (to - start) - end} {y = to - start} (omega arith)
          ∙ (ap (λ xs. take (to - start) (drop end xs)) whole
          ∙ (ap (take (to - start)) (drop_at (take end literals) (part ++ behind) end front) ∙ take_at part behind (to - start) size));
      left = left_more after literals (end + (to - start)) to (omega (arith, low, order)) past;
    }

same_range : (xs ys : List Literal) (from to : ℕ) → drop from xs ≡ drop from ys → slice_range xs from to ≡ slice_range ys from to
same_range xs ys from to same = ap (take (to - from)) same

-- a slot that is kept is packed behind the others
pub packing_on : (arena : List Literal) (items : List Slot) (flags : List Bool) (literals after : List Literal) (slots : List Slot) (place packed end from volume weight : ℕ) (s : Slot) →
    IsPacking arena items flags literals slots place packed end from volume → IsNext arena items flags place from s false → IsMoved literals after from s.end end →
    weight ≡ weight_of (is_original s.name) →
    IsPacking arena items flags after (set slots packed (record s { end = end + (s.end - from) })) (place + 1) (packed + 1) (end + (s.end - from)) s.end (volume + weight)
packing_on arena items flags literals after slots place packed end from volume weight s packing next moved counts =
    let t : Slot = record s { end = end + (s.end - from) } in
    let older = reverse (take packed slots) in
    let more : reverse (take (place + 1) items) ≡ s ∷ reverse (take place items) = newest items place s next.inside ∙ ap (λ u. u ∷ reverse (take place items)) (sym (next.slot s)) in
    let inside : packed < length slots = omega (arith, packing.few, next.inside, packing.size) in
    let turned : reverse (take (packed + 1) (set slots packed t)) ≡ t ∷ older = ap reverse (take_more_set slots packed t inside) ∙ reverse-append (take packed slots) (t ∷ []) in
    let parts : parts_of after (ends_of older) ≡ parts_of literals (ends_of older) = parts_same after literals (ends_of older) end packing.ordered (omega (arith, packing.full)) moved.front in
    let lits : slice_range after (end_of (ends_of older)) t.end ≡ slice_range arena (end_of (ends_of (reverse (take place items)))) s.end =
    ap (λ e. slice_range after e t.end) packing.full
    ∙ (moved.moved ∙ (same_range literals arena from s.end packing.literals_left ∙ ap (λ f. slice_range arena f s.end) packing.begin)) in
    let row : clauses_in after (t ∷ older) ≡ row_in arena s (end_of (ends_of (reverse (take place items)))) ∷ clauses_in literals older =
    ap (λ part. let c : HeldClause = record { name = s.name; lits = part; uses = s.uses } in c ∷ rows_of older (parts_of after (ends_of older))) lits
    ∙ ap (λ ps. row_in arena s (end_of (ends_of (reverse (take place items)))) ∷ rows_of older ps) parts in
    record {
      size = length-set slots packed t ∙ packing.size;
      long = moved.long ∙ packing.long;
      few = omega (arith, packing.few);
      short = omega (arith, packing.short, next.order);
      begin = ap (λ xs. end_of (ends_of xs)) (sym more);
      slots_left = drop-set-lt (place + 1) slots packed t (omega (arith, packing.few)) ∙ left_more slots items place (place + 1) (omega arith) packing.slots_left;
      literals_left = moved.left ∙ left_more literals arena from s.end next.order packing.literals_left;
      ordered = subst (λ xs. AreEnds (ends_of xs)) (sym turned) (omega (arith, packing.full), packing.ordered);
      full = ap (λ xs. end_of (ends_of xs)) turned;
      rows = ap (clauses_in after) turned
          ∙ (row
          ∙ (ap (λ rows. row_in arena s (end_of (ends_of (reverse (take place items)))) ∷ rows) packing.rows
          ∙ (ap (λ fs. kept fs (clauses_in arena (s ∷ reverse (take place items)))) (sym next.flag_is)
          ∙ ap (λ xs. kept (reverse (take (place + 1) flags)) (clauses_in arena xs)) (sym more))));
      counted =
          let total = ap volume_of (ap (clauses_in after) turned ∙ row) in
          let one = volume_of-cons (row_in arena s (end_of (ends_of (reverse (take place items))))) (clauses_in literals older) in
          omega (arith, total, one, packing.counted, counts);
    }

-- what is left once all slots were looked at
pub record IsPacked (arena : List Literal) (items : List Slot) (flags : List Bool) (literals : List Literal) (slots : List Slot) (volume : ℕ) : Type 0 where
  pub rows : clauses_in literals (reverse slots) ≡ kept (reverse flags) (clauses_in arena (reverse items))
  pub arena_is : IsArena literals (ends_of (reverse slots))
  pub counted : volume ≡ volume_of (clauses_in literals (reverse slots))
  pub few : length slots ≤ length items

pub packing_ends : (arena : List Literal) (items : List Slot) (flags : List Bool) (literals : List Literal) (slots : List Slot) (place packed end from volume : ℕ) →
    IsPacking arena items flags literals slots place packed end from volume → IsArena arena (ends_of (reverse items)) → length items ≤ place → length flags ≡ length items →
    IsPacked arena items flags (take end literals) (take packed slots) volume
packing_ends arena items flags literals slots place packed end from volume packing full last size =
    let older = reverse (take packed slots) in
    let all : take place items ≡ items = take_all place items last in
    let all_flags : take place flags ≡ flags = take_all place flags (omega (arith, last, size)) in
    let bound : from ≡ length arena = packing.begin ∙ (ap (λ xs. end_of (ends_of (reverse xs))) all ∙ full.full) in
    let cut : clauses_in (take end literals) older ≡ clauses_in literals older =
    ap (rows_of older) (parts_same (take end literals) literals (ends_of older) end packing.ordered (omega (arith, packing.full)) (take-take end end literals (omega arith))) in
    let long : length (take end literals) ≡ end = length-take-le end literals (omega (arith, packing.short, bound, packing.long)) in
    record {
      rows = cut ∙ (packing.rows ∙ (ap (λ fs. kept (reverse fs) (clauses_in arena (reverse (take place items)))) all_flags ∙ ap (λ xs. kept (reverse flags) (clauses_in arena (reverse xs))) all));
      arena_is = record { ordered = packing.ordered; full = packing.full ∙ sym long };
      counted = packing.counted ∙ ap volume_of (sym cut);
      few = omega (arith, length-take packed slots, packing.size);
    }
