use Rattle.solo_core.proofs.NextPeriod.{next_period_sound, next_period_others}
use Rattle.solo_core.proofs.laws.periods.law_period_may_end.Goals as goal

pub returns : goal.returns
returns c = record { sound = next_period_sound; others = next_period_others }
