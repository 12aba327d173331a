use Rattle.solo_core.proofs.DerivedTrue.{derived_true, unsat_refutes}
use Rattle.solo_core.proofs.laws.soundness.law_derived_lemmas_are_true.Goals as goal

pub returns : goal.returns
returns c = record { lemmas = derived_true; unsat = unsat_refutes }
