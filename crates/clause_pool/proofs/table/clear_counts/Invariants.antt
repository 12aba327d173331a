use Rattle.std.proofs.Common.{◌≡◌, ◌++◌, map, take, drop}
use Rattle.clause_pool.specs.Slots.{without_count}
use Rattle.clause_pool.proofs.table.clear_counts.Given as goal

-- the slots so far have no uses, and the others are as they were
abbrev pub invariant-loop-slot : goal.invariant-loop-slot
invariant-loop-slot l = l.slots ≡ map without_count (take l.slot-index l.initial.slots) ++ drop l.slot-index l.initial.slots
