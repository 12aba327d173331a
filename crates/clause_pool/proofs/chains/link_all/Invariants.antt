use Rattle.std.proofs.Common.{◌≡◌, ◌<◌, ◌^◌, length, take, reverse, map}
use Rattle.clause_pool.specs.Slots.{unlinked}
use Rattle.clause_pool.specs.Links.{IsLinked}
use Rattle.clause_pool.proofs.chains.link_all.Given as goal

-- the slots so far are linked, and all are those from before but for their links
abbrev pub invariant-loop-place : goal.invariant-loop-place
invariant-loop-place l = record {
  slots : map unlinked l.slots ≡ map unlinked l.initial.slots;
  linked : length l.slots < 2 ^ 32 → IsLinked l.heads (reverse (take l.place l.slots));
}
