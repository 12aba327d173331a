use Rattle.lit_base.proofs.Passed.{lesson_bounded}
use Rattle.lit_base.proofs.laws.lesson.law_lesson_literals.Goals as goal

pub returns : goal.returns
returns c = record {
  distinct = λ n look trail conflict fitting within falsified. (lesson_bounded n look trail conflict fitting within).distinct;
  distinct_variables = λ n look trail conflict fitting within falsified. (lesson_bounded n look trail conflict fitting within).distinct_variables;
  within = λ n look trail conflict fitting within falsified. (lesson_bounded n look trail conflict fitting within).within;
  few = λ n look trail conflict fitting within falsified. (lesson_bounded n look trail conflict fitting within).few;
}
