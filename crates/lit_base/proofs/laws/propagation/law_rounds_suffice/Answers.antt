use Rattle.lit_base.proofs.FixedPoint.{round-propagate}
use Rattle.lit_base.proofs.laws.propagation.law_rounds_suffice.Goals as goal

pub returns : goal.returns
returns c = round-propagate
