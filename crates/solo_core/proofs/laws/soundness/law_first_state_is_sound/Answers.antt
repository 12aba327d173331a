use Rattle.solo_core.proofs.FirstState.{first_sound, first_holds}
use Rattle.solo_core.proofs.laws.soundness.law_first_state_is_sound.Goals as goal

pub returns : goal.returns
returns c = record { sound = first_sound; formula = first_holds }
