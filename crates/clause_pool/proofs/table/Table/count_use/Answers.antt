use Rattle.std.proofs.Common.{◌<◌, ◌+◌, ◌^◌, reverse, set, map, ap, ◌∙◌, arith}
use Rattle.clause_pool.specs.Slots.{clauses_in, counted_at, without_count}
use Rattle.clause_pool.proofs.Rows.{inside_slots, row_read}
use Rattle.clause_pool.proofs.Counting.{one_more, recounted_at, rows_counted, table_recounted}
use Rattle.clause_pool.proofs.table.Table.count_use.Goals as goal

-- the place is that of a slot
pub index_mut-slot-requires : goal.index_mut-slot-requires
index_mut-slot-requires c =
    let inside = inside_slots c.self.inside.literals.items c.self.inside.slots.items c.args.self.now c.args.place c.self.view_is c.requires.within in
    omega (arith, inside)

-- its uses are the clause's
pub overflow_add-slot : goal.overflow_add-slot
overflow_add-slot c =
    let slot = c.index_mut-slot.result.now in
    let few : slot.uses + 1 < 2 ^ 64 = c.requires.fits _
    (row_read c.self.inside.literals.items c.self.inside.slots.items c.args.self.now c.args.place slot c.self.invariant.arena c.self.view_is c.requires.within c.index_mut-slot.ensures.value) in
    omega (arith, few)

-- uses alone changed
pub invariant_of-self : goal.invariant_of-self
invariant_of-self c =
    let inside = inside_slots c.self.inside.literals.items c.self.inside.slots.items c.args.self.now c.args.place c.self.view_is c.requires.within in
    let at = c.index_mut-slot.ensures.value in
    table_recounted c.self.inside.literals.items (reverse c.self.inside.slots.items) _ _ _ _
    (ap (λ s. map without_count (reverse (set c.self.inside.slots.items c.args.place (one_more s)))) at ∙ recounted_at c.self.inside.slots.items c.args.place c.index_mut-slot.result.now inside)
    c.self.invariant

-- of one clause
pub returns : goal.returns
returns c =
    let inside = inside_slots c.self.inside.literals.items c.self.inside.slots.items c.args.self.now c.args.place c.self.view_is c.requires.within in
    ap (λ s. clauses_in c.self.inside.literals.items (reverse (set c.self.inside.slots.items c.args.place (one_more s)))) c.index_mut-slot.ensures.value
    ∙ (rows_counted c.self.inside.literals.items c.self.inside.slots.items c.args.place c.index_mut-slot.result.now inside ∙ ap (counted_at c.args.place) c.self.view_is)
