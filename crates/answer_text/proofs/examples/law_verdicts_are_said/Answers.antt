use Rattle.std.proofs.Common.{refl}
use Rattle.std.specs.Fmt.{digits}
use Rattle.answer_text.proofs.examples.law_verdicts_are_said.Goals as goal

-- the numbers are written out
pub returns-clause-model : goal.returns-clause-model
unfolding digits
returns-clause-model c = refl

pub returns-clause-unknown : goal.returns-clause-unknown
unfolding digits
returns-clause-unknown c = refl
