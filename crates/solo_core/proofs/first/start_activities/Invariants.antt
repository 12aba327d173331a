use Rattle.std.proofs.Common.{◌≡◌, ◌^◌, length}
use Rattle.solo_core.specs.First.{starts_from}
use Rattle.solo_core.specs.Searching.{AreActivitiesUpTo}
use Rattle.solo_core.proofs.first.start_activities.Given as goal

-- the activities of the variables so far
abbrev pub invariant-loop-index : goal.invariant-loop-index
invariant-loop-index l = record {
  starts : l.starts ≡ starts_from l.row.noise l.seed l.core l.index 1;
  below : AreActivitiesUpTo (2 ^ 16) l.starts;
  each : length l.starts ≡ l.index;
}
