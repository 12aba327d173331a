use Rattle.clause_pool.proofs.Keeping.{IsPacking}
use Rattle.clause_pool.proofs.packing.pack.Given as goal

-- the slots so far that are kept stand packed
abbrev pub invariant-loop-place : goal.invariant-loop-place
invariant-loop-place l = IsPacking l.fn.literals.items l.fn.slots.items l.flags l.literals.items l.slots.items l.place l.packed l.end l.from l.volume
