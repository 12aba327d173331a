use Rattle.std.proofs.Common.{◌≡◌, ◌<◌, length}
use Rattle.var_order.specs.Heap.{ArePlaced, IsHeapButUp, members_of}
use Rattle.var_order.proofs.heap.Heap.rise.Given as goal

-- the variable that rises stands at this place, and all others are in order
abbrev pub invariant-loop-at : goal.invariant-loop-at
invariant-loop-at l = record {
  placed : ArePlaced (length l.activities) l.self;
  within : l.at < l.self.size;
  members : members_of l.self ≡ members_of l.fn.self;
  order : IsHeapButUp l.at l.activities l.self;
}

abbrev pub decreases-loop-at : goal.decreases-loop-at
decreases-loop-at l = l.at
