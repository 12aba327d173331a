use Rattle.solo_core.proofs.Derived.{derived_from_more}
use Rattle.solo_core.proofs.laws.changes.law_derived_from_more.Goals as goal

pub returns : goal.returns
returns c = derived_from_more
