-- The sentences of `check`, from the record of a run.
use Rattle.std.proofs.Common.{◌≡◌, ◌⊎◌, ℕ, List, ◌++◌, inl, inr, sym, ap, ◌∙◌, arith, refl, Option, Some, None, Ok, Err}
use Rattle.std.specs.Io.KnownBytes.{prepend_known, IsAtEnd}
use Rattle.lit_base.specs.Cnf.{Cnf}
use Rattle.desk_io.specs.Told.{InputsTold, Rose}
use Rattle.desk_io.specs.declared.Slot.TheVariants.{Formula, Proof}
use Rattle.desk_io.specs.declared.Port.TheVariants.{Complaint}
use Rattle.cnf_text.specs.Reading.{formula_of}
use Rattle.lrat_text.specs.Reading.{Steps, proof_steps}
use Rattle.lrat_check.specs.Laws.{FaultRefuses}
use Rattle.crew.specs.declared.outcome.Verdict.TheVariants.{Unknown}
use Rattle.job_words.specs.declared.job.Job.{Job}
use Rattle.job_words.specs.declared.job.Job.TheVariants.{Solve, Check, Gen, Race}
use Rattle.dp2ll.specs.declared.finding.Flaw.{Flaw}
use Rattle.dp2ll.specs.declared.finding.Finding.{Finding}
use Rattle.dp2ll.specs.declared.finding.Finding.TheVariants.{Verified, Flawed}
use Rattle.dp2ll.specs.declared.ending.ReadStop.{ReadStop}
use Rattle.dp2ll.specs.declared.ending.ReadStop.TheVariants as reading
use Rattle.dp2ll.specs.declared.ending.ProofStop.{ProofStop}
use Rattle.dp2ll.specs.declared.ending.ProofStop.TheVariants as proof
use Rattle.dp2ll.specs.declared.ending.WriteStop.{WriteStop}
use Rattle.dp2ll.specs.declared.ending.WriteStop.TheVariants as writing
use Rattle.dp2ll.specs.declared.ending.Ending.{Ending}
use Rattle.dp2ll.specs.declared.ending.Ending.TheVariants.{Answered, Judged, Written, Usage, Unread, Unjudged, Unwritten, NoMemory}
use Rattle.dp2ll.specs.Ending.{read_status, proof_status, write_status, finding_status, finding_text, status_of, complaint_of}
use Rattle.dp2ll.specs.Complaint.{Tells, Complains}
use Rattle.dp2ll.specs.Reading.{bytes_taken}
use Rattle.dp2ll.specs.Judging.{IsFlaw, IsFinding, IsJudged, StopsJudging}
use Rattle.dp2ll.specs.Answering.{CutsTexts}
use Rattle.dp2ll.specs.Serving.{Desk, FindsProof, ChecksProof, IsUnchecked, ServesJob, Serves}
use Rattle.dp2ll.specs.Headline.{Run, Headline, IsToldFormula, desk_before, desk_after, OnCheck, IsCheck, EndsBy, IsChecked, OnToldProof, SaysVerified, SaysFlaw, IsCalmCheck, AnswersProof, AnswersCheck, IsCompleteCheck, CheckSentences}
use Rattle.dp2ll.proofs.Statuses.{at_zero, at_six}
use Rattle.dp2ll.proofs.Whole.{KnowsReading, all_taken, some_taken, read_told, refused_told}
use Rattle.dp2ll.proofs.Found.{flaw_refuses}
use Rattle.dp2ll.proofs.Ends.{own_of, ends_by}

-- a command that ended with a finding is `check`
on_judged : (job : Option Job) (before after : Desk) (finding : Finding) (Q : List ℕ → List ℕ → Type 0)
    → ServesJob job before after (Judged finding)
    → ((file proof : List ℕ) → ChecksProof file proof before after (Judged finding) → Q file proof) → OnCheck job Q
on_judged None before after finding Q serves gives = absurd serves
on_judged (Some (Solve file settings workers log trace)) before after finding Q serves gives = absurd serves.cause
on_judged (Some (Check file proof)) before after finding Q serves gives = gives file proof serves
on_judged (Some (Gen kind n seed)) before after finding Q serves gives = absurd serves.cause
on_judged (Some (Race kind n settings)) before after finding Q serves gives = absurd serves.cause

-- `check` runs no core
never_answers : (job : Option Job) (before after : Desk) → IsCheck job → ServesJob job before after (Answered Unknown) → ⊥
never_answers None before after is serves = is
never_answers (Some (Solve file settings workers log trace)) before after is serves = is
never_answers (Some (Check file proof)) before after is serves = serves.cause
never_answers (Some (Gen kind n seed)) before after is serves = is
never_answers (Some (Race kind n settings)) before after is serves = is

-- `check` makes no formula
never_makes : (job : Option Job) (before after : Desk) → IsCheck job → ServesJob job before after Written → ⊥
never_makes None before after is serves = is
never_makes (Some (Solve file settings workers log trace)) before after is serves = is
never_makes (Some (Check file proof)) before after is serves = serves.cause
never_makes (Some (Gen kind n seed)) before after is serves = is
never_makes (Some (Race kind n settings)) before after is serves = is

-- where `check` ends with status 0 the proof was verified
verified_at : (run : Run) (h : Headline run) → IsCheck run.job → Tells (complaint_of h.how) (run.before.at Complaint) (run.after.at Complaint)
    → (h.how ≡ Answered Unknown) ⊎ ((h.how ≡ Judged Verified) ⊎ (h.how ≡ Written)) → EndsBy run (Judged Verified)
verified_at run h is tells (inr (inl same)) = ends_by run h (Judged Verified) same tells (λ refused. refused)
verified_at run h is tells (inr (inr same)) =
    absurd (never_makes run.job (desk_before run) (desk_after run) is (ends_by run h Written same tells (λ refused. refused)).serves)
verified_at run h is tells (inl same) =
    absurd (never_answers run.job (desk_before run) (desk_after run) is (ends_by run h (Answered Unknown) same tells (λ refused. refused)).serves)

-- statuses 0 and 6 come by their causes
checked_of : (run : Run) → Headline run → IsCheck run.job → IsChecked run
checked_of run h is = record {
  verified = λ zero. let own = own_of run h 0 zero (λ e. omega arith) in verified_at run h is own.1 (at_zero h.how own.0);
  flawed = λ six.
      let own = own_of run h 6 six (λ e. omega arith) in
      let at = at_six h.how own.0 in
      (at.0, ends_by run h (Judged (Flawed at.0)) at.1 own.1 (λ refused. refused));
}

-- what was found of a told proof holds of it
told_finding : (cnf : Cnf) (held left : Option (List ℕ)) (finding : Finding) (bytes : List ℕ) → held ≡ Some bytes
    → IsJudged cnf held left finding → IsFinding cnf (proof_steps bytes) finding
told_finding cnf held left finding bytes told judged =
    by (bytes_taken judged.takes) judged.takes.rest judged.found
  where
    by : (taken : List ℕ) → held ≡ prepend_known taken left
        → ((rest : List ℕ) → IsFinding cnf (proof_steps (taken ++ rest)) finding) ⊎ (IsAtEnd left × IsFinding cnf (proof_steps taken) finding)
        → IsFinding cnf (proof_steps bytes) finding
    by taken rest (inl early) = let parts = some_taken bytes taken held left told rest in rw parts.1 (early parts.0)
    by taken rest (inr (end, found)) = rw (all_taken bytes taken held left told rest end) found

-- the file of a run that judged a proof is its formula, where it is told
told_formula : KnowsReading → (run : Run) (file proof : List ℕ) (between : InputsTold) (finding : Finding)
    → (finds : FindsProof file proof (desk_before run) between (desk_after run) finding) → IsToldFormula run file finds.cnf
told_formula laws run file proof between finding finds bytes told =
    read_told laws.ends bytes (run.inputs_before.held Formula file) (between.at Formula).left finds.cnf told finds.begins.read

-- what `check` says of a proof that checks
verified_of : KnowsReading → (run : Run) (file proof : List ℕ) → ChecksProof file proof (desk_before run) (desk_after run) (Judged Verified)
    → SaysVerified run file proof
verified_of laws run file proof served =
    let finds = served.cause.finds in
    record {
      cnf = finds.cnf;
      checked = λ bytes told. told_finding finds.cnf (run.inputs_before.held Proof proof) (run.inputs_after.at Proof).left Verified bytes told finds.found;
      no_model = finds.refuted refl;
      printed = served.cause.says.answered;
      told = told_formula laws run file proof served.between Verified finds;
    }

-- what it says of one that doesn't
flawed_of : KnowsReading → FaultRefuses → (run : Run) (flaw : Flaw) → Tells (complaint_of (Judged (Flawed flaw))) (run.before.at Complaint) (run.after.at Complaint)
    → (file proof : List ℕ) → ChecksProof file proof (desk_before run) (desk_after run) (Judged (Flawed flaw)) → SaysFlaw run file proof
flawed_of laws refuses run flaw tells file proof served =
    let finds = served.cause.finds in
    let found : OnToldProof run proof (λ steps. IsFlaw finds.cnf steps flaw) =
    λ bytes told. told_finding finds.cnf (run.inputs_before.held Proof proof) (run.inputs_after.at Proof).left (Flawed flaw) bytes told finds.found in
    record {
      cnf = finds.cnf;
      flaw = flaw;
      found = found;
      unchecked = λ bytes told. flaw_refuses refuses finds.cnf (proof_steps bytes) flaw (found bytes told);
      printed = served.cause.says.answered;
      complaint = tells;
      told = told_formula laws run file proof served.between (Flawed flaw) finds;
    }

-- status 5 answers every file
at_five : (run : Run) (bytes proof : List ℕ) → run.status ≡ 5 → AnswersCheck (formula_of bytes) proof run
at_five run bytes proof five =
    elim (formula_of bytes) as (λ found. AnswersCheck found proof run) [ Ok cnf ↦ λ calm other told. inr five | Err fault ↦ inr five ]

-- a finding decides the status
finding_decides : FaultRefuses → (run : Run) (cnf : Cnf) (steps : Steps) (finding : Finding) → run.status ≡ finding_status finding
    → IsFinding cnf steps finding → AnswersProof cnf steps run
finding_decides refuses run cnf steps Verified status found = rw found (inl status)
finding_decides refuses run cnf steps (Flawed flaw) status found = rw (flaw_refuses refuses cnf steps flaw found) (inl status)

-- where reading stopped though no call on the formula's slot failed, the file has that fault, or memory was refused
calm_read : KnowsReading → (run : Run) (file bytes proof : List ℕ) (between : InputsTold) (stop : ReadStop) → run.status ≡ read_status stop
    → run.inputs_before.held Formula file ≡ Some bytes
    → ¬ Rose (run.inputs_before.at Formula).faults (run.inputs_after.at Formula).faults
    → Tells (complaint_of (Unread stop)) (run.before.at Complaint) (run.after.at Complaint)
    → IsUnchecked file (desk_before run) between (desk_after run) stop → AnswersCheck (formula_of bytes) proof run
calm_read laws run file bytes proof between (reading.NoFormula fault) status told calm tells cause =
    rw (refused_told laws bytes (run.inputs_before.held Formula file) (between.at Formula).left fault told cause.stops)
    (inl (record { status = status; complaint = tells }))
calm_read laws run file bytes proof between reading.ReadFault status told calm tells cause =
    absurd (calm (rw cause.no_more cause.stops.rose))
calm_read laws run file bytes proof between reading.NoMemory status told calm tells cause = at_five run bytes proof status

-- a proof that was not judged though no call failed: memory was refused
calm_judging : (run : Run) (cnf : Cnf) (steps : Steps) (held : Option (List ℕ)) (between : InputsTold) (stop : ProofStop)
    → run.status ≡ proof_status stop → between.at Proof ≡ run.inputs_before.at Proof → IsCalmCheck run
    → StopsJudging cnf held (between.at Proof) (run.inputs_after.at Proof) stop → AnswersProof cnf steps run
calm_judging run cnf steps held between proof.ReadFault status same calm stops = absurd (calm.proof (rw (sym same) stops.rose))
calm_judging run cnf steps held between proof.NoMemory status same calm stops = inr status

-- a finding that was not said whole though no call failed: memory was refused
calm_saying : (run : Run) (cnf : Cnf) (steps : Steps) (text : List ℕ) (stop : WriteStop) → run.status ≡ write_status stop → IsCalmCheck run
    → CutsTexts None text text (desk_before run).page (desk_after run).page stop → AnswersProof cnf steps run
calm_saying run cnf steps text writing.LogFault status calm cut = absurd cut.failed
calm_saying run cnf steps text writing.AnswerFault status calm cut = absurd (calm.answer cut.rose)
calm_saying run cnf steps text writing.NoMemory status calm cut = inr status

-- `check` that ended like this, with its own status, answers both files
check_answers : KnowsReading → FaultRefuses → (run : Run) (file bytes proof : List ℕ) (how : Ending) → run.status ≡ status_of how
    → run.inputs_before.held Formula file ≡ Some bytes
    → ¬ Rose (run.inputs_before.at Formula).faults (run.inputs_after.at Formula).faults
    → Tells (complaint_of how) (run.before.at Complaint) (run.after.at Complaint)
    → (served : ChecksProof file proof (desk_before run) (desk_after run) how) → AnswersCheck (formula_of bytes) proof run
check_answers laws refuses run file bytes proof (Answered verdict) status told calm tells served = absurd served.cause
check_answers laws refuses run file bytes proof (Judged finding) status told calm tells served =
    let finds = served.cause.finds in
    rw (told_formula laws run file proof served.between finding finds bytes told)
    (λ fine other is. finding_decides refuses run finds.cnf (proof_steps other) finding status
    (told_finding finds.cnf (run.inputs_before.held Proof proof) (run.inputs_after.at Proof).left finding other is finds.found))
check_answers laws refuses run file bytes proof Written status told calm tells served = absurd served.cause
check_answers laws refuses run file bytes proof Usage status told calm tells served = absurd served.cause
check_answers laws refuses run file bytes proof (Unread stop) status told calm tells served =
    calm_read laws run file bytes proof served.between stop status told calm tells served.cause
check_answers laws refuses run file bytes proof (Unjudged stop) status told calm tells served =
    let cause = served.cause in
    rw (read_told laws.ends bytes (run.inputs_before.held Formula file) (served.between.at Formula).left cause.cnf told cause.begins.read)
    (λ fine other is. calm_judging run cause.cnf (proof_steps other) (run.inputs_before.held Proof proof) served.between stop status
    served.begun.others fine cause.stops)
check_answers laws refuses run file bytes proof (Unwritten stop) status told calm tells served =
    let cause = served.cause in
    rw (told_formula laws run file proof served.between cause.finding cause.finds bytes told)
    (λ fine other is. calm_saying run cause.finds.cnf (proof_steps other) (finding_text cause.finding) stop status fine cause.cut)
check_answers laws refuses run file bytes proof NoMemory status told calm tells served = absurd served.cause

-- a run with `check` that ended like this answers both files
serves_answers : KnowsReading → FaultRefuses → (run : Run) (file bytes proof : List ℕ) (how : Ending)
    → run.inputs_before.held Formula file ≡ Some bytes
    → ¬ Rose (run.inputs_before.at Formula).faults (run.inputs_after.at Formula).faults
    → Serves (Some (Check file proof)) (desk_before run) (desk_after run) how
    → Complains (complaint_of how) (status_of how) (run.before.at Complaint) (run.after.at Complaint) run.status
    → AnswersCheck (formula_of bytes) proof run
serves_answers laws refuses run file bytes proof how told calm serves (inr (five, front)) = at_five run bytes proof five
serves_answers laws refuses run file bytes proof how told calm (inl served) (inl (status, tells)) =
    check_answers laws refuses run file bytes proof how status told calm tells served
serves_answers laws refuses run file bytes proof how told calm (inr gives_up) (inl (status, tells)) =
    at_five run bytes proof (status ∙ ap (λ (h : Ending). status_of h) gives_up.cause)

-- what a run promises decides the answer of told files
complete_check : KnowsReading → FaultRefuses → (run : Run) → Headline run → IsCompleteCheck run
complete_check laws refuses run h file proof bytes job told calm =
    serves_answers laws refuses run file bytes proof h.how told calm (rw job at h.serves) h.complains

-- all sentences of `check`
pub check_sentences : KnowsReading → FaultRefuses → (run : Run) → Headline run → IsCheck run.job → CheckSentences run
check_sentences laws refuses run h is =
    let checked = checked_of run h is in
    record {
      checked = checked;
      verified = λ zero.
          on_judged run.job (desk_before run) (desk_after run) Verified (λ file proof. SaysVerified run file proof) (checked.verified zero).serves
          (verified_of laws run);
      flawed = λ six.
          let ends = checked.flawed six in
          on_judged run.job (desk_before run) (desk_after run) (Flawed ends.0) (λ file proof. SaysFlaw run file proof) ends.1.serves
          (flawed_of laws refuses run ends.0 ends.1.complaint);
      complete = complete_check laws refuses run h;
    }
