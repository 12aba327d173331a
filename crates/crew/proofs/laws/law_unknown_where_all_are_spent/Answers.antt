use Rattle.crew.proofs.RunOutcome.{unknown_where_spent}
use Rattle.crew.proofs.laws.law_unknown_where_all_are_spent.Goals as goal

pub returns : goal.returns
returns c = unknown_where_spent
