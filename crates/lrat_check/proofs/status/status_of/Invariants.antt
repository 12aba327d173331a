use Rattle.std.proofs.Common.{◌≡◌, drop}
use Rattle.lit_base.specs.Walk.{status_of}
use Rattle.lrat_check.proofs.status.status_of.Given as goal

-- the literals that are left decide
abbrev pub invariant-loop-place : goal.invariant-loop-place
invariant-loop-place l = status_of l.known l.lits ≡ status_of l.known (drop l.place l.lits)
