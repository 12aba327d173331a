use Rattle.std.proofs.Common.{refl}
use Rattle.lrat_text.specs.Reading.{steps_of, proof_steps, early_steps}
use Rattle.lrat_text.proofs.laws.small_proofs_are_read.Goals as goal

pub returns-clause-two_lemmas : goal.returns-clause-two_lemmas
unfolding proof_steps steps_of
returns-clause-two_lemmas c = refl

pub returns-clause-odd_lines : goal.returns-clause-odd_lines
unfolding proof_steps steps_of
returns-clause-odd_lines c = refl

pub returns-clause-not_ended : goal.returns-clause-not_ended
unfolding early_steps steps_of
returns-clause-not_ended c = refl

pub returns-clause-rat_hint : goal.returns-clause-rat_hint
unfolding proof_steps steps_of
returns-clause-rat_hint c = refl

pub returns-clause-minus_zero : goal.returns-clause-minus_zero
unfolding proof_steps steps_of
returns-clause-minus_zero c = refl

pub returns-clause-unclosed : goal.returns-clause-unclosed
unfolding proof_steps steps_of
returns-clause-unclosed c = refl

pub returns-clause-no_literal : goal.returns-clause-no_literal
unfolding proof_steps steps_of
returns-clause-no_literal c = refl

pub returns-clause-behind_the_end : goal.returns-clause-behind_the_end
unfolding proof_steps steps_of
returns-clause-behind_the_end c = refl

pub returns-clause-not_whole : goal.returns-clause-not_whole
unfolding early_steps steps_of
returns-clause-not_whole c = refl

pub returns-clause-whole : goal.returns-clause-whole
unfolding early_steps steps_of
returns-clause-whole c = refl
