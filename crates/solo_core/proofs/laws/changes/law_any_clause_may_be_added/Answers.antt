use Rattle.solo_core.proofs.SoundClauses.{added_sound, added_holds}
use Rattle.solo_core.proofs.laws.changes.law_any_clause_may_be_added.Goals as goal

pub returns : goal.returns
returns c = record { sound = added_sound; formula = added_holds }
