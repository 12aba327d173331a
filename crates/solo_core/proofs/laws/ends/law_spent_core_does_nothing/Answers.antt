use Rattle.solo_core.proofs.EndRules.{spent_ends, spent_stays}
use Rattle.solo_core.proofs.laws.ends.law_spent_core_does_nothing.Goals as goal

pub returns : goal.returns
returns c = record { ended = spent_ends; kept = spent_stays }
