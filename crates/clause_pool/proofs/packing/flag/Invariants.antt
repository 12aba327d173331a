use Rattle.std.proofs.Common.{◌≡◌, map, take}
use Rattle.lit_base.specs.Held.{is_among}
use Rattle.clause_pool.proofs.packing.flag.Given as goal

-- the slots with one of the names so far are flagged
abbrev pub invariant-loop-name : goal.invariant-loop-name
invariant-loop-name l = l.flags ≡ map (λ s. is_among (take l.name-index l.names) s.name) l.slots
