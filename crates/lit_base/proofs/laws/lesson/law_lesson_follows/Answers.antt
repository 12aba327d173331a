use Rattle.lit_base.proofs.laws.lesson.law_lesson_follows.Goals as goal
use Rattle.lit_base.proofs.LessonSound.{lesson_follows}

pub returns : goal.returns
returns c = lesson_follows
