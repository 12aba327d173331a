use Rattle.std.proofs.Common.{◌≡◌, ◌<◌, ◌≤◌, ◌-◌, length}
use Rattle.var_order.specs.Heap.{ArePlaced, IsHeapButDown, members_of}
use Rattle.var_order.proofs.heap.Heap.sink.Given as goal

-- the variable that sinks stands at this place, and all others from the start on are in order
abbrev pub invariant-loop-child : goal.invariant-loop-child
invariant-loop-child l = record {
  placed : ArePlaced (length l.activities) l.self;
  after : l.start ≤ l.at;
  within : l.at < length l.activities;
  size : l.self.size ≡ l.fn.self.size;
  members : members_of l.self ≡ members_of l.fn.self;
  order : IsHeapButDown l.start l.at l.activities l.self;
}

abbrev pub decreases-loop-child : goal.decreases-loop-child
decreases-loop-child l = length l.activities - l.at
