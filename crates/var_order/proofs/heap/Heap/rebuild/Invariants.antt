use Rattle.std.proofs.Common.{◌≡◌, ◌-◌, length}
use Rattle.var_order.specs.Heap.{ArePlaced, IsHeapFrom, members_of}
use Rattle.var_order.proofs.heap.Heap.rebuild.Given as goal

-- the variables below the places that are done are in order
abbrev pub invariant-loop-done : goal.invariant-loop-done
invariant-loop-done l = record {
  placed : ArePlaced (length l.activities) l.self;
  size : l.self.size ≡ l.fn.self.size;
  members : members_of l.self ≡ members_of l.fn.self;
  heap : IsHeapFrom (l.inner - l.done) l.activities l.self;
}
