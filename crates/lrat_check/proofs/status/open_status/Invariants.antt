use Rattle.std.proofs.Common.{◌≡◌, drop}
use Rattle.lrat_check.specs.Status.{open_status}
use Rattle.lrat_check.proofs.status.open_status.Given as goal

-- the literals that are left decide
abbrev pub invariant-loop-place : goal.invariant-loop-place
invariant-loop-place l = open_status l.known l.first l.lits ≡ open_status l.known l.first (drop l.place l.lits)
