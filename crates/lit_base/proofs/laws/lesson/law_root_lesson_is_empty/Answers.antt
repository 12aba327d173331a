use Rattle.lit_base.proofs.laws.lesson.law_root_lesson_is_empty.Goals as goal
use Rattle.lit_base.proofs.RootLesson.{root_lesson_empty}

pub returns : goal.returns
returns c = root_lesson_empty
