-- The sentences of `solve`, from the record of a run.
use Rattle.std.proofs.Common.{◌≡◌, ◌⊎◌, ◌↔◌, ◌++◌, codes, rules, ℕ, List, Bool, inl, inr, sym, ◌∙◌, arith, refl, Option, Some, None}
use Rattle.lit_base.specs.Text.{values_text}
use Rattle.desk_io.specs.declared.Slot.TheVariants.{Formula}
use Rattle.solo_core.specs.declared.sheet.Settings.{Settings}
use Rattle.crew.specs.declared.outcome.Verdict.{Verdict}
use Rattle.crew.specs.declared.outcome.Verdict.TheVariants.{Sat, Unsat, Unknown}
use Rattle.crew.specs.declared.outcome.Outcome.{Outcome}
use Rattle.crew.specs.Outcome.{outcome_of}
use Rattle.job_words.specs.declared.job.Job.{Job}
use Rattle.job_words.specs.declared.job.Job.TheVariants.{Solve, Check, Gen, Race}
use Rattle.dp2ll.specs.declared.finding.Finding.TheVariants.{Verified}
use Rattle.dp2ll.specs.declared.ending.Ending.TheVariants.{Answered, Judged, Written}
use Rattle.dp2ll.specs.Ending.{verdict_status, status_of, complaint_of}
use Rattle.dp2ll.specs.Complaint.{Tells}
use Rattle.desk_io.specs.declared.Port.TheVariants.{Complaint}
use Rattle.answer_text.specs.Answer.{trace_text, answer_text}
use Rattle.dp2ll.specs.Serving.{Desk, Solves, ServesJob}
use Rattle.dp2ll.specs.Headline.{Run, Headline, IsToldFormula, desk_before, desk_after, OnSolve, IsSolve, EndsBy, IsSolved, PrintsModel, PrintsProof, IsModel, IsRefutation, IsVerdict, GivesUpSpent, IsUnknown, SolveSentences}
use Rattle.dp2ll.proofs.Statuses.{at_ten, at_twenty, at_zero}
use Rattle.dp2ll.proofs.Whole.{KnowsReading, read_told}
use Rattle.dp2ll.proofs.Ends.{own_of, ends_by}
use Rattle.dp2ll.proofs.Complete.{complete}

-- a command that ended with a verdict is `solve`
on_answered : (job : Option Job) (before after : Desk) (verdict : Verdict) (Q : List ℕ → Option (List ℕ) → Settings → Bool → Type 0)
    → ServesJob job before after (Answered verdict)
    → ((file : List ℕ) (log : Option (List ℕ)) (settings : Settings) (trace : Bool) → Solves file log settings trace before after (Answered verdict) → Q file log settings trace)
    → OnSolve job Q
on_answered None before after verdict Q serves gives = absurd serves
on_answered (Some (Solve file settings workers log trace)) before after verdict Q serves gives = gives file log settings trace serves
on_answered (Some (Check file proof)) before after verdict Q serves gives = absurd serves.cause
on_answered (Some (Gen kind n seed)) before after verdict Q serves gives = absurd serves.cause
on_answered (Some (Race kind n settings)) before after verdict Q serves gives = absurd serves.cause

-- `solve` judges no proof
never_judges : (job : Option Job) (before after : Desk) → IsSolve job → ServesJob job before after (Judged Verified) → ⊥
never_judges None before after is serves = is
never_judges (Some (Solve file settings workers log trace)) before after is serves = serves.cause
never_judges (Some (Check file proof)) before after is serves = is
never_judges (Some (Gen kind n seed)) before after is serves = is
never_judges (Some (Race kind n settings)) before after is serves = is

-- and makes no formula
never_makes : (job : Option Job) (before after : Desk) → IsSolve job → ServesJob job before after Written → ⊥
never_makes None before after is serves = is
never_makes (Some (Solve file settings workers log trace)) before after is serves = serves.cause
never_makes (Some (Check file proof)) before after is serves = is
never_makes (Some (Gen kind n seed)) before after is serves = is
never_makes (Some (Race kind n settings)) before after is serves = is

-- a status of a verdict comes by its cause
answered_at : (run : Run) (h : Headline run) (verdict : Verdict) (wanted : ℕ) → run.status ≡ wanted → (wanted ≡ 5 → ⊥)
    → (status_of h.how ≡ wanted → h.how ≡ Answered verdict) → EndsBy run (Answered verdict)
answered_at run h verdict wanted same other at =
    let own = own_of run h wanted same other in
    ends_by run h (Answered verdict) (at own.0) own.1 (λ refused. refused)

-- where `solve` ends with status 0 it gave up
gave_up : (run : Run) (h : Headline run) → IsSolve run.job → run.status ≡ 0 → EndsBy run (Answered Unknown)
gave_up run h is zero = by (own_of run h 0 zero (λ e. omega arith))
  where
    by : (status_of h.how ≡ 0) × Tells (complaint_of h.how) (run.before.at Complaint) (run.after.at Complaint) → EndsBy run (Answered Unknown)
    by own = which (at_zero h.how own.0)
      where
        which : (h.how ≡ Answered Unknown) ⊎ ((h.how ≡ Judged Verified) ⊎ (h.how ≡ Written)) → EndsBy run (Answered Unknown)
        which (inl same) = ends_by run h (Answered Unknown) same own.1 (λ refused. refused)
        which (inr (inr same)) =
            absurd (never_makes run.job (desk_before run) (desk_after run) is (ends_by run h Written same own.1 (λ refused. refused)).serves)
        which (inr (inl same)) =
            absurd (never_judges run.job (desk_before run) (desk_after run) is
            (ends_by run h (Judged Verified) same own.1 (λ refused. refused)).serves)

-- statuses 10, 20 and 0 come by their causes
solved_of : (run : Run) → Headline run → IsSolve run.job → IsSolved run
solved_of run h is = record {
  satisfiable = λ ten. answered_at run h Sat 10 ten (λ e. omega arith) (at_ten h.how);
  unsatisfiable = λ twenty. answered_at run h Unsat 20 twenty (λ e. omega arith) (at_twenty h.how);
  given_up = gave_up run h is;
}

-- what holds of the `solve` of a run that ended like this
on_ended : (run : Run) (verdict : Verdict) (Q : List ℕ → Option (List ℕ) → Settings → Bool → Type 0) → EndsBy run (Answered verdict)
    → ((file : List ℕ) (log : Option (List ℕ)) (settings : Settings) (trace : Bool) → Solves file log settings trace (desk_before run) (desk_after run) (Answered verdict)
    → Q file log settings trace)
    → OnSolve run.job Q
on_ended run verdict Q ends gives = on_answered run.job (desk_before run) (desk_after run) verdict Q ends.serves gives

-- the file of a run that has a verdict is its formula, where it is told
told_formula : KnowsReading → (run : Run) (file : List ℕ) (log : Option (List ℕ)) (settings : Settings) (trace : Bool) (verdict : Verdict)
    → (solves : Solves file log settings trace (desk_before run) (desk_after run) (Answered verdict)) → IsToldFormula run file solves.cause.cnf
told_formula laws run file log settings trace verdict solves bytes told =
    read_told laws.ends bytes (run.inputs_before.held Formula file) (run.inputs_after.at Formula).left solves.cause.cnf told solves.cause.read

-- the answer of an outcome with this verdict and this model
model_answer : (outcome : Outcome) (settings : Settings) (trace : Bool) (model : List Bool) → outcome.verdict ≡ Sat → outcome.model ≡ Some model
    → answer_text outcome settings trace ≡ trace_text outcome settings trace ++ (codes "s SATISFIABLE\n" ++ values_text model)
model_answer outcome settings trace model sat found = rw (sat, found) refl

-- the model that a run prints
model_of_solve : KnowsReading → (run : Run) (file : List ℕ) (log : Option (List ℕ)) (settings : Settings) (trace : Bool)
    → Solves file log settings trace (desk_before run) (desk_after run) (Answered Sat) → PrintsModel run file settings trace
model_of_solve laws run file log settings trace solves =
    let answered = solves.cause.answered in
    let finds = answered.backed.model answered.outcome in
    record {
      cnf = solves.cause.cnf;
      model = finds.0;
      found = finds.1;
      printed = rw (sym (model_answer (outcome_of solves.cause.cnf settings) settings trace finds.0 answered.outcome finds.1.found)) answered.texts.answered;
      told = told_formula laws run file log settings trace Sat solves;
    }

-- a printed model satisfies the formula
model_of : KnowsReading → (run : Run) → IsSolved run → IsModel run
model_of laws run solved ten =
    on_ended run Sat (λ file log settings trace. PrintsModel run file settings trace) (solved.satisfiable ten) (model_of_solve laws run)

-- the proof that a run writes
proof_of_solve : KnowsReading → (run : Run) (file : List ℕ) (log : Option (List ℕ)) (settings : Settings) (trace : Bool)
    → Solves file log settings trace (desk_before run) (desk_after run) (Answered Unsat) → PrintsProof run file log settings
proof_of_solve laws run file log settings trace solves = record {
  cnf = solves.cause.cnf;
  refuted = solves.cause.answered.backed.refuted solves.cause.answered.outcome;
  logged = solves.cause.answered.texts.logged;
  told = told_formula laws run file log settings trace Unsat solves;
}

-- the proof of a refutation checks
refutation_of : KnowsReading → (run : Run) → IsSolved run → IsRefutation run
refutation_of laws run solved twenty =
    on_ended run Unsat (λ file log settings trace. PrintsProof run file log settings) (solved.unsatisfiable twenty) (proof_of_solve laws run)

-- the run ended with this verdict
record EndsWith (run : Run) : Type 0 where
  verdict : Verdict
  status : run.status ≡ verdict_status verdict
  ends : EndsBy run (Answered verdict)

-- the verdict of a status that is a verdict's
verdict_at : (run : Run) → IsSolved run → IsVerdict run.status → EndsWith run
verdict_at run solved (inl ten) = record { verdict = Sat; status = ten; ends = solved.satisfiable ten }
verdict_at run solved (inr (inl twenty)) = record { verdict = Unsat; status = twenty; ends = solved.unsatisfiable twenty }
verdict_at run solved (inr (inr zero)) = record { verdict = Unknown; status = zero; ends = solved.given_up zero }

-- of the statuses of verdicts, 0 is that of unknown alone
zero_is_unknown : (verdict : Verdict) (status : ℕ) → status ≡ verdict_status verdict → (status ≡ 0) ↔ (verdict ≡ Unknown)
zero_is_unknown verdict status is = search rules

-- where cores gave up, all have spent their limit
unknown_of_solve : KnowsReading → (run : Run) (verdict : Verdict) → run.status ≡ verdict_status verdict → (file : List ℕ) (log : Option (List ℕ))
    (settings : Settings) (trace : Bool) → Solves file log settings trace (desk_before run) (desk_after run) (Answered verdict) → GivesUpSpent run file settings
unknown_of_solve laws run verdict status file log settings trace solves =
    let answered = solves.cause.answered in
    let zero = zero_is_unknown verdict run.status status in
    record {
      cnf = solves.cause.cnf;
      spent = (λ is. answered.backed.unknown.0 (answered.outcome ∙ zero.0 is), λ all. zero.1 (sym answered.outcome ∙ answered.backed.unknown.1 all));
      told = told_formula laws run file log settings trace verdict solves;
    }

-- unknown comes exactly where every core has spent its limit
unknown_of : KnowsReading → (run : Run) → IsSolved run → IsUnknown run
unknown_of laws run solved is =
    let at = verdict_at run solved is in
    on_ended run at.verdict (λ file log settings trace. GivesUpSpent run file settings) at.ends (unknown_of_solve laws run at.verdict at.status)

-- all sentences of `solve`
pub solve_sentences : KnowsReading → (run : Run) → Headline run → IsSolve run.job → SolveSentences run
solve_sentences laws run h is =
    let solved = solved_of run h is in
    record {
      solved = solved;
      model = model_of laws run solved;
      refuted = refutation_of laws run solved;
      unknown = unknown_of laws run solved;
      complete = complete laws run h;
    }
