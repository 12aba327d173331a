use Rattle.lit_base.proofs.TwoOfLevel.{has_two}
use Rattle.lit_base.proofs.laws.lesson.law_conflict_has_two_literals.Goals as goal

pub returns : goal.returns
returns c = has_two
