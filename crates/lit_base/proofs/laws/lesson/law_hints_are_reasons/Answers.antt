use Rattle.lit_base.proofs.Passed.{lesson_bounded}
use Rattle.lit_base.proofs.HintReasons.{hints_led}
use Rattle.lit_base.proofs.laws.lesson.law_hints_are_reasons.Goals as goal

pub returns : goal.returns
returns c = record {
  reasons = hints_led;
  few = λ n look trail conflict fitting within falsified. (lesson_bounded n look trail conflict fitting within).few_hints;
}
