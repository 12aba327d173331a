use Rattle.lit_base.proofs.laws.propagation.law_propagation_fits.Goals as goal
use Rattle.lit_base.proofs.PropagationFits.{propagation_fits}

pub returns : goal.returns
returns c = propagation_fits
