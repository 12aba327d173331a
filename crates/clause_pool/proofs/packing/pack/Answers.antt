use Rattle.std.proofs.Common.{reverse, take, ap, sym, ◌∙◌, arith}
use Rattle.std.proofs.lemmas.List.{length-reverse, length-take}
use Rattle.lit_base.specs.Held.{volume_of, is_original}
use Rattle.clause_pool.specs.Slots.{clauses_in}
use Rattle.clause_pool.proofs.Volume.{volume_of-le, weight-le}
use Rattle.clause_pool.proofs.Rows.{rows_length}
use Rattle.clause_pool.proofs.Keeping.{is_next, packing_over, packing_on, packing_ends, is_moved}
use Rattle.clause_pool.proofs.packing.pack.Goals as goal

-- a flagged slot is passed over
pub loop-place-preserved-then-flags-place : goal.loop-place-preserved-then-flags-place
loop-place-preserved-then-flags-place c =
    packing_over _ _ _ _ _ _ _ _ _ _ c.index-slot.result.now c.loop-place.invariant
    (is_next _ _ _ _ _ _ _ _ _ _ c.index-slot.result.now _ _ c.loop-place.invariant c.requires.arena c.requires.size (omega arith) c.index-slot.ensures c.if-flags-place.true)

-- the literals of the slot stand in the arena, behind those that are packed
pub copy_within-requires-clause-start_le_end : goal.copy_within-requires-clause-start_le_end
copy_within-requires-clause-start_le_end c =
    (is_next _ _ _ _ _ _ _ _ _ _ c.index-slot.result.now _ _ c.loop-place.invariant c.requires.arena c.requires.size (omega arith) c.index-slot.ensures c.if-flags-place.false).order

pub copy_within-requires-clause-in_bounds : goal.copy_within-requires-clause-in_bounds
copy_within-requires-clause-in_bounds c =
    let next = is_next _ _ _ _ _ _ _ _ _ _ c.index-slot.result.now _ _ c.loop-place.invariant c.requires.arena c.requires.size (omega arith) c.index-slot.ensures c.if-flags-place.false in
    omega (arith, next.within, c.loop-place.invariant.long)

pub copy_within-requires-clause-dest_in_bounds : goal.copy_within-requires-clause-dest_in_bounds
copy_within-requires-clause-dest_in_bounds c =
    let next = is_next _ _ _ _ _ _ _ _ _ _ c.index-slot.result.now _ _ c.loop-place.invariant c.requires.arena c.requires.size (omega arith) c.index-slot.ensures c.if-flags-place.false in
    omega (arith, next.within, next.order, c.loop-place.invariant.long, c.loop-place.invariant.short)

pub overflow_sub-end : goal.overflow_sub-end
overflow_sub-end c =
    (is_next _ _ _ _ _ _ _ _ _ _ c.index-slot.result.now _ _ c.loop-place.invariant c.requires.arena c.requires.size (omega arith) c.index-slot.ensures c.if-flags-place.false).order

-- there are at most as many lemmas as packed slots
pub overflow_add-volume : goal.overflow_add-volume
overflow_add-volume c =
    let packed = take c.loop-place.packed c.loop-place.slots.items in
    let few = volume_of-le (clauses_in c.loop-place.literals.items (reverse packed)) in
    let weight = weight-le (is_original c.index-slot.result.now.name) in
    omega (
      arith,
      few,
      weight,
      rows_length c.loop-place.literals.items (reverse packed),
      length-reverse packed,
      length-take c.loop-place.packed c.loop-place.slots.items,
      c.loop-place.invariant.counted,
      c.loop-place.invariant.few,
      c.weight_of-volume.ensures,
    )

-- any other slot is packed
pub loop-place-preserved : goal.loop-place-preserved
loop-place-preserved c =
    let next = is_next _ _ _ _ _ _ _ _ _ _ c.index-slot.result.now _ _ c.loop-place.invariant c.requires.arena c.requires.size (omega arith) c.index-slot.ensures c.if-flags-place.false in
    packing_on _ _ _ _ _ _ _ _ _ _ _ _ c.index-slot.result.now c.loop-place.invariant next
    (is_moved c.loop-place.literals.items c.copy_within.new.self.items c.loop-place.from c.index-slot.result.now.end c.loop-place.end c.loop-place.invariant.short next.order
    (omega (arith, next.within, c.loop-place.invariant.long)) c.copy_within.ensures.items)
    c.weight_of-volume.ensures

-- at the end those that are kept are left
pub returns-clause-rows : goal.returns-clause-rows
returns-clause-rows c =
    ap (λ literals. clauses_in literals (reverse c.truncate.new.self.items)) c.truncate-2.ensures.items
    ∙ (ap (λ slots. clauses_in (take c.loop-place.end c.loop-place.literals.items) (reverse slots)) c.truncate.ensures.items
    ∙ (packing_ends _ _ _ _ _ _ _ _ _ _ c.loop-place.invariant c.requires.arena (omega arith) c.requires.size).rows)

pub returns-clause-volume : goal.returns-clause-volume
returns-clause-volume c =
    (packing_ends _ _ _ _ _ _ _ _ _ _ c.loop-place.invariant c.requires.arena (omega arith) c.requires.size).counted
    ∙ sym (ap (λ literals. volume_of (clauses_in literals (reverse c.truncate.new.self.items))) c.truncate-2.ensures.items
    ∙ ap (λ slots. volume_of (clauses_in (take c.loop-place.end c.loop-place.literals.items) (reverse slots))) c.truncate.ensures.items)
