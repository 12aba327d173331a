use Rattle.std.proofs.Common.{◌≡◌, length}
use Rattle.round_prop.proofs.tests.check.Given as goal

-- the trail keeps its variables
abbrev pub invariant-loop-number : goal.invariant-loop-number
invariant-loop-number g l = length l.trail.saved ≡ 4
