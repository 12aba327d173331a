use Rattle.lit_base.proofs.laws.lesson.law_conflict_refutes.Goals as goal
use Rattle.lit_base.specs.Refutation.{refutation_of}
use Rattle.lit_base.proofs.ProofSound.{checked_refutes}
use Rattle.lit_base.proofs.RootConflict.{conflict_refutes}

pub returns : goal.returns
returns c = record {
  checked = conflict_refutes;
  no_model = λ cnf conflict is. checked_refutes cnf (refutation_of cnf conflict) (conflict_refutes cnf conflict is);
}
