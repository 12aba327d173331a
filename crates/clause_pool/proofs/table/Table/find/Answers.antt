use Rattle.std.proofs.Common.{◌∙◌}
use Rattle.clause_pool.proofs.Placing.{linked_read, place_read}
use Rattle.clause_pool.proofs.table.Table.find.Goals as goal

-- the slots are linked
pub find-requires : goal.find-requires
find-requires c = record {
  linked = linked_read c.self.inside.heads.items c.deref.result.now c.self.inside.slots.items c.deref-2.result.now c.deref-2.ensures.value c.deref.ensures.value c.self.invariant.linked;
}

-- a clause stands where its slot does
pub returns : goal.returns
returns c = c.find.ensures ∙ place_read c.self.inside.literals.items c.self.inside.slots.items c.deref-2.result.now c.args.self.now c.args.name c.self.view_is c.deref-2.ensures.value
