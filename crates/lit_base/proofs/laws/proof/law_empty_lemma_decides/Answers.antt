use Rattle.lit_base.proofs.laws.proof.law_empty_lemma_decides.Goals as goal
use Rattle.lit_base.proofs.ProofEnds.{checks-none_empty, checks-at_empty}

pub returns : goal.returns
returns c = record { none = checks-none_empty; first = checks-at_empty }
