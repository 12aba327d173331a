use Rattle.lit_base.proofs.Passed.{lesson_bounded}
use Rattle.lit_base.proofs.Touched.{touched_exactly}
use Rattle.lit_base.proofs.laws.lesson.law_touched_variables.Goals as goal

pub returns : goal.returns
returns c = record {
  distinct = λ n look trail conflict fitting within falsified. (lesson_bounded n look trail conflict fitting within).touched_distinct;
  exactly = λ n look trail conflict fitting within falsified. touched_exactly look trail conflict fitting falsified;
  within = λ n look trail conflict fitting within falsified. (lesson_bounded n look trail conflict fitting within).touched_within;
  few = λ n look trail conflict fitting within falsified. (lesson_bounded n look trail conflict fitting within).few_touched;
}
