use Rattle.std.proofs.Common.{◌∙◌, ap, reverse, map}
use Rattle.clause_pool.specs.Slots.{clauses_in, without_count}
use Rattle.clause_pool.specs.Uses.{cleared}
use Rattle.clause_pool.proofs.Counting.{clauses_cleared, cleared_slots, recleared, table_recounted}
use Rattle.clause_pool.proofs.table.Table.clear_uses.Goals as goal

-- uses alone changed
pub invariant_of-self : goal.invariant_of-self
invariant_of-self c =
    let slots_are = cleared_slots c.self.inside.slots c.deref_mut.result.now c.clear_counts.new.slots c.clear_counts.ensures c.deref_mut.ensures.value c.deref_mut.ensures.len in
    table_recounted c.self.inside.literals.items (reverse c.self.inside.slots.items) _ _ _ _ (ap (map without_count) slots_are ∙ recleared (reverse c.self.inside.slots.items)) c.self.invariant

-- those of all clauses
pub returns : goal.returns
returns c =
    ap (clauses_in c.self.inside.literals.items)
    (cleared_slots c.self.inside.slots c.deref_mut.result.now c.clear_counts.new.slots c.clear_counts.ensures c.deref_mut.ensures.value c.deref_mut.ensures.len)
    ∙ (clauses_cleared c.self.inside.literals.items (reverse c.self.inside.slots.items) ∙ ap cleared c.self.view_is)
