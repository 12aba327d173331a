use Rattle.std.proofs.Common.{length, ap, arith}
use Rattle.clause_pool.proofs.Rows.{inside_slots, slot_span}
use Rattle.clause_pool.proofs.table.Table.span.Goals as goal

-- the place is that of a slot
pub start_of-requires : goal.start_of-requires
start_of-requires c =
    let inside = inside_slots c.self.inside.literals.items c.self.inside.slots.items c.args.self.now c.args.place c.self.view_is c.requires in
    omega (arith, inside, ap length c.deref.ensures.value)

pub index-requires : goal.index-requires
index-requires c =
    let inside = inside_slots c.self.inside.literals.items c.self.inside.slots.items c.args.self.now c.args.place c.self.view_is c.requires in
    omega (arith, inside)

-- its literals stand in front of its end
pub returns-clause-value : goal.returns-clause-value
returns-clause-value c =
    (slot_span c.self.inside.literals.items c.self.inside.slots.items c.deref.result.now c.args.self.now c.args.place c.start_of.result c.index.result.now c.self.invariant.arena c.self.view_is
    c.deref.ensures.value c.requires c.start_of.ensures c.index.ensures).is

pub returns-clause-order : goal.returns-clause-order
returns-clause-order c =
    (slot_span c.self.inside.literals.items c.self.inside.slots.items c.deref.result.now c.args.self.now c.args.place c.start_of.result c.index.result.now c.self.invariant.arena c.self.view_is
    c.deref.ensures.value c.requires c.start_of.ensures c.index.ensures).order

pub returns-clause-few : goal.returns-clause-few
returns-clause-few c =
    let within = (slot_span c.self.inside.literals.items c.self.inside.slots.items c.deref.result.now c.args.self.now c.args.place c.start_of.result c.index.result.now c.self.invariant.arena c.self.view_is
    c.deref.ensures.value c.requires c.start_of.ensures c.index.ensures).within in
    omega (arith, within, ap length c.deref-literals.ensures.value, c.deref-literals.type_inv)
