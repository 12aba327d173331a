use Rattle.solo_core.proofs.SoundSteps.{jumped_sound}
use Rattle.solo_core.proofs.laws.changes.law_any_jump_may_be_made.Goals as goal

pub returns : goal.returns
returns c = jumped_sound
