use Rattle.solo_core.proofs.SoundSteps.{decided_sound}
use Rattle.solo_core.proofs.laws.changes.law_any_free_variable_may_be_decided.Goals as goal

pub returns : goal.returns
returns c = decided_sound
