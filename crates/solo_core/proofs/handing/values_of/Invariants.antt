use Rattle.std.proofs.Common.{◌≡◌}
use Rattle.lit_base.specs.Trail.{values_from}
use Rattle.solo_core.proofs.handing.values_of.Given as goal

-- the values of the variables so far
abbrev pub invariant-loop-index : goal.invariant-loop-index
invariant-loop-index l = l.values ≡ values_from l.index 1 l.trail.entries
