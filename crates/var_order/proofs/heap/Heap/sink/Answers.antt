use Rattle.std.proofs.Common.{◌∙◌, length, arith}
use Rattle.var_order.proofs.Heaps.{sunk}
use Rattle.var_order.proofs.Members.{members_swapped}
use Rattle.var_order.proofs.heap.Heap.sink.Goals as goal

-- the variable stands one level lower
pub loop-child-preserved : goal.loop-child-preserved
loop-child-preserved c =
    let activities = c.args.activities.now in
    let old = c.loop-child.self in
    let before = c.loop-child.invariant in
    let chosen = c.in-Some.ensures.some in
    let swapped = c.swap.ensures.swapped in
    let placed = c.swap.ensures.placed (length activities) before.placed in
    record {
      placed = placed;
      after = omega (arith, before.after, chosen.low, chosen.below);
      within = omega (arith, chosen.high, before.placed.size);
      size = swapped.size ∙ before.size;
      members = members_swapped (length activities) old c.swap.new.self c.loop-child.at c.in-Some.child before.placed placed swapped (omega (arith, chosen.low, chosen.high, chosen.below)) chosen.high ∙ before.members;
      order = sunk activities old c.swap.new.self c.args.start c.loop-child.at c.in-Some.child before.after before.order chosen swapped;
    }
