use Rattle.lit_base.proofs.FullTrail.{length-model_of}
use Rattle.lit_base.proofs.laws.trail.law_model_has_each_value.Goals as goal

pub returns : goal.returns
returns c = length-model_of
