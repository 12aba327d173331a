use Rattle.solo_core.proofs.EndRules.{turns_suffice}
use Rattle.solo_core.proofs.laws.ends.law_turns_suffice.Goals as goal

pub returns : goal.returns
returns c = turns_suffice
