use Rattle.clause_pool.proofs.Tallying.{IsTallying}
use Rattle.clause_pool.proofs.tally.tallies_of.Given as goal

-- the slots before the place were looked at
abbrev pub invariant-loop-place : goal.invariant-loop-place
invariant-loop-place l = IsTallying l.slots l.flags l.tallies.items l.place l.start
