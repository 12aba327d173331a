use Rattle.lit_base.proofs.laws.proof.law_checked_proof_refutes.Goals as goal
use Rattle.lit_base.proofs.ProofSound.{checked_refutes}

pub returns : goal.returns
returns c = checked_refutes
