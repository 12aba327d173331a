use Rattle.std.proofs.Common.{◌≡◌, ◌++◌, false, drop, replicate}
use Rattle.clause_pool.proofs.packing.clear.Given as goal

-- the flags so far are lowered, and the others are as they were
abbrev pub invariant-loop-flag : goal.invariant-loop-flag
invariant-loop-flag l = l.flags ≡ replicate l.flag-index false ++ drop l.flag-index l.initial.flags
