use Rattle.lit_base.proofs.FullTrail.{satisfies_full}
use Rattle.lit_base.proofs.laws.trail.law_full_trail_satisfies.Goals as goal

pub returns : goal.returns
returns c = satisfies_full
