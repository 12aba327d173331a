use Rattle.std.proofs.Common.{◌≡◌, take, reverse}
use Rattle.clause_pool.specs.Slots.{slot_names, place_at}
use Rattle.clause_pool.proofs.chains.find_by_search.Given as goal

-- the name is to be found among the slots that are left
abbrev pub invariant-loop-place : goal.invariant-loop-place
invariant-loop-place l = place_at (slot_names (reverse l.slots)) l.name ≡ place_at (slot_names (reverse (take l.place l.slots))) l.name
