use Rattle.std.proofs.Common.{◌≡◌, ◌++◌, drop, replicate}
use Rattle.clause_pool.proofs.chains.clear.Given as goal

-- the heads so far are 0, and the others are as they were
abbrev pub invariant-loop-head : goal.invariant-loop-head
invariant-loop-head l = l.heads ≡ replicate l.head-index 0 ++ drop l.head-index l.initial.heads
