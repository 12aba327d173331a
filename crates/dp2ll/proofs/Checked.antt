-- What `check` found, from what judging the proof's file gave.
use Rattle.std.proofs.Common.{◌≡◌, ◌⊎◌, ℕ, List, [], ◌++◌, inl, inr, subst, Option}
use Rattle.std.specs.Io.KnownBytes.{IsAtEnd}
use Rattle.lit_base.specs.Cnf.{Cnf}
use Rattle.lit_base.specs.Judgement.{Checks, HasNoModel}
use Rattle.lit_base.specs.declared.proof.Line.{Line}
use Rattle.desk_io.specs.Told.{InputsTold}
use Rattle.desk_io.specs.declared.Slot.TheVariants.{Formula, Proof}
use Rattle.lrat_text.specs.Reading.{proof_steps}
use Rattle.dp2ll.specs.declared.finding.Finding.{Finding}
use Rattle.dp2ll.specs.declared.finding.Finding.TheVariants.{Verified}
use Rattle.dp2ll.specs.Reading.{BeginsSlot, BeginsFormula, IsRead, bytes_taken}
use Rattle.dp2ll.specs.Judging.{IsFinding, FindsEarly, IsJudged}
use Rattle.dp2ll.specs.Serving.{Desk, FindsProof}

-- a proof that checks refutes its formula
refutes : ((cnf : Cnf) (lines : List Line) → Checks cnf lines → HasNoModel cnf) → (cnf : Cnf) (bytes : List ℕ) (finding : Finding)
    → IsFinding cnf (proof_steps bytes) finding → finding ≡ Verified → HasNoModel cnf
refutes law cnf bytes finding found same = law cnf (proof_steps bytes).lines (rw same at found)

-- whatever was taken of it
no_model : ((cnf : Cnf) (lines : List Line) → Checks cnf lines → HasNoModel cnf) → (cnf : Cnf) (left : Option (List ℕ)) (bytes : List ℕ)
    (finding : Finding) → FindsEarly cnf bytes finding ⊎ (IsAtEnd left × IsFinding cnf (proof_steps bytes) finding) → finding ≡ Verified
    → HasNoModel cnf
no_model law cnf left bytes finding (inl early) same = refutes law cnf (bytes ++ []) finding (early []) same
no_model law cnf left bytes finding (inr (end, found)) same = refutes law cnf bytes finding found same

-- what judging the file found
pub finds_proof : ((cnf : Cnf) (lines : List Line) → Checks cnf lines → HasNoModel cnf) → (file proof : List ℕ) (before : Desk)
    (between : InputsTold) (after : Desk) (cnf : Cnf) (finding : Finding) → BeginsFormula file before.inputs between
    → IsRead (before.inputs.held Formula file) (between.at Formula).left cnf → BeginsSlot Proof proof between after.inputs
    → IsJudged cnf (between.held Proof proof) (after.inputs.at Proof).left finding → FindsProof file proof before between after finding
finds_proof law file proof before between after cnf finding begun read begins judged = record {
  cnf = cnf;
  begins = record { read = read; begun = begins };
  found = subst (λ held. IsJudged cnf (held Proof proof) (after.inputs.at Proof).left finding) begun.held judged;
  refuted = no_model law cnf (after.inputs.at Proof).left (bytes_taken judged.takes) finding judged.found;
}
