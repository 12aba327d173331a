use Rattle.std.proofs.Common.{◌∙◌, ◌-◌, ℕ, false, length, arith, ap, sym, set}
use Rattle.std.proofs.lemmas.List.{get_or_read}
use Rattle.var_order.specs.Heap.{members_of}
use Rattle.var_order.proofs.Members.{members_taken}
use Rattle.var_order.proofs.heap.Heap.take_best.Goals as goal

-- the variable of the top is out
pub returns-clause-members : goal.returns-clause-members
returns-clause-members c =
    let old = c.args.self.now in
    let placed = c.requires.placed in
    let top = get_or_read old.vars.items 0 c.index-best.result.now (omega (arith, placed.vars, placed.size)) c.index-best.ensures 0 in
    c.sink.ensures.members
    ∙ members_taken (length c.args.activities.now) old c.swap.new.self (old.size - 1) placed (c.swap.ensures.placed (length c.args.activities.now) placed) c.swap.ensures.swapped (omega arith)
    ∙ ap (λ (v : ℕ). set (members_of old) v false) (sym top)
