use Rattle.lit_base.proofs.laws.propagation.law_originals_are_found.Goals as goal
use Rattle.lit_base.proofs.OriginalsFound.{originals_found}

pub returns : goal.returns
returns c = originals_found
