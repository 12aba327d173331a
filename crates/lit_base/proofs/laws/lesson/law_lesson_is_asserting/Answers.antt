use Rattle.lit_base.proofs.Asserting.{lesson_asserting}
use Rattle.lit_base.proofs.laws.lesson.law_lesson_is_asserting.Goals as goal

pub returns : goal.returns
returns c = lesson_asserting
