use Rattle.solo_core.proofs.StretchSound.{stretch_holds, stretch_satisfies}
use Rattle.solo_core.proofs.laws.soundness.law_model_satisfies_formula.Goals as goal

pub returns : goal.returns
returns c = record { held = stretch_holds; satisfied = stretch_satisfies }
