use Rattle.solo_core.proofs.SoundClauses.{dropped_sound, dropped_holds}
use Rattle.solo_core.proofs.laws.changes.law_any_clause_may_be_dropped.Goals as goal

pub returns : goal.returns
returns c = record { sound = dropped_sound; formula = dropped_holds }
