use Rattle.std.proofs.Common.{refl}
use Rattle.std.specs.Fmt.{digits}
use Rattle.answer_text.proofs.examples.law_summaries_are_said.Goals as goal

-- the numbers are written out
pub returns-clause-refuted : goal.returns-clause-refuted
unfolding digits
returns-clause-refuted c = refl

pub returns-clause-unknown : goal.returns-clause-unknown
unfolding digits
returns-clause-unknown c = refl
