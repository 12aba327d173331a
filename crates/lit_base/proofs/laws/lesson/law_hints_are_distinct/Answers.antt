use Rattle.lit_base.proofs.laws.lesson.law_hints_are_distinct.Goals as goal
use Rattle.lit_base.proofs.HintsDistinct.{hints_distinct}

pub returns : goal.returns
returns c = hints_distinct
