-- The sentences of `gen` and `race`, from the record of a run.
use Rattle.std.proofs.Common.{◌≡◌, ◌⊎◌, ℕ, List, inl, inr, refl, sym, subst, Option, Some, None, arith}
use Rattle.std.specs.Io.KnownBytes.{append_known}
use Rattle.desk_io.specs.Told.{PortTold, Rose}
use Rattle.desk_io.specs.declared.Port.TheVariants.{Answer, Complaint}
use Rattle.crew.specs.declared.outcome.Verdict.TheVariants.{Unknown}
use Rattle.job_words.specs.declared.job.Job.{Job}
use Rattle.job_words.specs.declared.job.Job.TheVariants.{Solve, Check, Gen, Race}
use Rattle.dp2ll.specs.declared.finding.Finding.TheVariants.{Verified}
use Rattle.dp2ll.specs.declared.ending.WriteStop.TheVariants as writing
use Rattle.dp2ll.specs.declared.ending.Ending.{Ending}
use Rattle.dp2ll.specs.declared.ending.Ending.TheVariants.{Answered, Judged, Written, Usage, Unread, Unjudged, Unwritten, NoMemory}
use Rattle.dp2ll.specs.Making.{gen_text, race_text}
use Rattle.dp2ll.specs.Ending.{status_of, complaint_of}
use Rattle.dp2ll.specs.Complaint.{Tells, Complains}
use Rattle.dp2ll.specs.Serving.{Desk, TextCause, ServesJob, Serves}
use Rattle.dp2ll.specs.Headline.{Run, Headline, desk_before, desk_after, EndsBy, OnText, WritesOwnText, TextSentences}
use Rattle.dp2ll.proofs.Ends.{own_of, ends_by}
use Rattle.dp2ll.proofs.Statuses.{at_zero}

-- `gen` and `race` have no verdict
no_verdict : (job : Option Job) (before after : Desk) → WritesOwnText job → ServesJob job before after (Answered Unknown) → ⊥
no_verdict None before after is serves = is
no_verdict (Some (Solve file settings workers log trace)) before after is serves = is
no_verdict (Some (Check file proof)) before after is serves = is
no_verdict (Some (Gen kind n seed)) before after is serves = serves.cause
no_verdict (Some (Race kind n settings)) before after is serves = serves.cause

-- and judge no proof
no_finding : (job : Option Job) (before after : Desk) → WritesOwnText job → ServesJob job before after (Judged Verified) → ⊥
no_finding None before after is serves = is
no_finding (Some (Solve file settings workers log trace)) before after is serves = is
no_finding (Some (Check file proof)) before after is serves = is
no_finding (Some (Gen kind n seed)) before after is serves = serves.cause
no_finding (Some (Race kind n settings)) before after is serves = serves.cause

-- where one of them ends with status 0 its text is written
written_at : (run : Run) (h : Headline run) → WritesOwnText run.job → Tells (complaint_of h.how) (run.before.at Complaint) (run.after.at Complaint)
    → (h.how ≡ Answered Unknown) ⊎ ((h.how ≡ Judged Verified) ⊎ (h.how ≡ Written)) → EndsBy run Written
written_at run h is tells (inl same) =
    absurd (no_verdict run.job (desk_before run) (desk_after run) is (ends_by run h (Answered Unknown) same tells (λ refused. refused)).serves)
written_at run h is tells (inr (inl same)) =
    absurd (no_finding run.job (desk_before run) (desk_after run) is (ends_by run h (Judged Verified) same tells (λ refused. refused)).serves)
written_at run h is tells (inr (inr same)) = ends_by run h Written same tells (λ refused. refused)

-- the answer holds the text that was written
printed_text : (job : Option Job) (before after : Desk) → WritesOwnText job → ServesJob job before after Written
    → OnText job (λ text. after.page.answer.written ≡ append_known before.page.answer.written text)
printed_text None before after is serves = is
printed_text (Some (Solve file settings workers log trace)) before after is serves = is
printed_text (Some (Check file proof)) before after is serves = is
printed_text (Some (Gen kind n seed)) before after is serves = serves.cause.answered
printed_text (Some (Race kind n settings)) before after is serves = serves.cause.answered

-- how a command that writes a text may end: 4 comes only where a call on the answer failed
EndsText : ℕ → PortTold → PortTold → Type 0
EndsText status before after = ((status ≡ 0) ⊎ (status ≡ 5)) ⊎ ((status ≡ 4) × Rose before.faults after.faults)

-- the status of its cause
text_status : (text : List ℕ) (before after : Desk) (how : Ending) → TextCause text before after how → EndsText (status_of how) before.page.answer after.page.answer
unfolding EndsText
text_status text before after (Answered verdict) cause = absurd cause
text_status text before after (Judged finding) cause = absurd cause
text_status text before after Written cause = inl (inl refl)
text_status text before after Usage cause = absurd cause
text_status text before after (Unread stop) cause = absurd cause
text_status text before after (Unjudged stop) cause = absurd cause
text_status text before after (Unwritten writing.LogFault) cause = absurd cause.failed
text_status text before after (Unwritten writing.AnswerFault) cause = inr (refl, cause.rose)
text_status text before after (Unwritten writing.NoMemory) cause = inl (inr refl)
text_status text before after NoMemory cause = absurd cause

-- the same of a command
job_status : (job : Option Job) (before after : Desk) (how : Ending) → WritesOwnText job → Serves job before after how
    → EndsText (status_of how) before.page.answer after.page.answer
unfolding EndsText
job_status None before after how is serves = absurd is
job_status (Some (Solve file settings workers log trace)) before after how is serves = absurd is
job_status (Some (Check file proof)) before after how is serves = absurd is
job_status (Some (Gen kind n seed)) before after how is (inl writes) = text_status (gen_text kind n seed) before after how writes.cause
job_status (Some (Race kind n settings)) before after how is (inl writes) = text_status (race_text kind n settings) before after how writes.cause
job_status (Some job) before after how is (inr gives_up) = rw gives_up.cause (inl (inr refl))

-- the same of a run
run_status : (complaint : Option (List ℕ)) (own status : ℕ) (before after mark marked : PortTold) → Complains complaint own mark marked status → EndsText own before after
    → EndsText status before after
unfolding EndsText
run_status complaint own status before after mark marked (inl (is, tells)) ends = subst (λ s. EndsText s before after) (sym is) ends
run_status complaint own status before after mark marked (inr (five, front)) ends = inl (inr five)

-- the statuses that may come
some_status : (status : ℕ) (before after : PortTold) → EndsText status before after → (status ≡ 0) ⊎ ((status ≡ 4) ⊎ (status ≡ 5))
unfolding EndsText
some_status status before after (inl (inl zero)) = inl zero
some_status status before after (inl (inr five)) = inr (inr five)
some_status status before after (inr (four, rose)) = inr (inl four)

-- and those where no call on the answer failed
calm_status : (status : ℕ) (before after : PortTold) → EndsText status before after → ¬ Rose before.faults after.faults → (status ≡ 0) ⊎ (status ≡ 5)
unfolding EndsText
calm_status status before after (inl either) calm = either
calm_status status before after (inr (four, rose)) calm = absurd (calm rose)

-- all sentences of `gen` and `race`
pub text_sentences : (run : Run) → Headline run → WritesOwnText run.job → TextSentences run
text_sentences run h is =
    let ends : EndsText run.status (run.before.at Answer) (run.after.at Answer) =
    run_status (complaint_of h.how) (status_of h.how) run.status (run.before.at Answer) (run.after.at Answer) (run.before.at Complaint) (run.after.at Complaint) h.complains
    (job_status run.job (desk_before run) (desk_after run) h.how is h.serves) in
    let written : run.status ≡ 0 → EndsBy run Written =
    λ zero. let own = own_of run h 0 zero (λ e. omega arith) in written_at run h is own.1 (at_zero h.how own.0) in
    record {
      written = written;
      printed = λ zero. printed_text run.job (desk_before run) (desk_after run) is (written zero).serves;
      statuses = some_status run.status (run.before.at Answer) (run.after.at Answer) ends;
      complete = calm_status run.status (run.before.at Answer) (run.after.at Answer) ends;
    }
