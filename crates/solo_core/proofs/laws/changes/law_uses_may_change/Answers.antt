use Rattle.solo_core.proofs.SoundSteps.{uses_sound}
use Rattle.solo_core.proofs.laws.changes.law_uses_may_change.Goals as goal

pub returns : goal.returns
returns c = uses_sound
