use Rattle.solo_core.proofs.SoundStretch.{turn_sound, turn_holds}
use Rattle.solo_core.proofs.laws.soundness.law_turn_keeps_soundness.Goals as goal

pub returns : goal.returns
returns c = record { sound = turn_sound; formula = turn_holds }
