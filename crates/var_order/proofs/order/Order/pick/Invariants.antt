use Rattle.var_order.specs.Heap.{order_by, IsIndexed}
use Rattle.var_order.proofs.Picks.{IsLeftOf}
use Rattle.var_order.proofs.order.Order.pick.Given as goal

-- the variables that are out, and were in, are not free
abbrev pub invariant-loop-self : goal.invariant-loop-self
invariant-loop-self l = record {
  index : IsIndexed l.self-inside.activities l.self-inside.heap;
  left : IsLeftOf l.fn.self (order_by l.self-inside.activities l.self-inside.heap) l.trail.entries;
}

abbrev pub decreases-loop-self : goal.decreases-loop-self
decreases-loop-self l = l.self-inside.heap.size
