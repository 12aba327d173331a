use Rattle.solo_core.proofs.SoundStretch.{sound_conflict_two, sound_conflict_asserting}
use Rattle.solo_core.proofs.laws.soundness.law_conflict_asserts.Goals as goal

pub returns : goal.returns
returns c = record { two = sound_conflict_two; asserting = sound_conflict_asserting }
