-- The sentences of a run, from its record.
use Rattle.std.proofs.Common.{◌≡◌, ◌⊎◌, ℕ, List, inl, inr, sym, subst, ◌∙◌, ap, arith, refl, Option, Some, None}
use Rattle.desk_io.specs.Told.{InputsTold, PortTold}
use Rattle.desk_io.specs.declared.Slot.TheVariants.{Proof}
use Rattle.desk_io.specs.declared.Port.TheVariants.{Complaint}
use Rattle.cnf_text.specs.Laws.{EarlyFaultStays, EndEndsInput}
use Rattle.lrat_check.specs.Laws.{FaultRefuses}
use Rattle.cnf_text.specs.declared.fault.CnfFault.{CnfFault}
use Rattle.job_words.specs.declared.job.Job.{Job}
use Rattle.job_words.specs.declared.job.Job.TheVariants.{Solve, Check, Gen, Race}
use Rattle.dp2ll.specs.declared.ending.ReadStop.TheVariants as reading
use Rattle.dp2ll.specs.declared.ending.ProofStop.TheVariants as proof
use Rattle.dp2ll.specs.declared.ending.WriteStop.TheVariants as writing
use Rattle.dp2ll.specs.declared.ending.Ending.{Ending}
use Rattle.dp2ll.specs.declared.ending.Ending.TheVariants.{Answered, Judged, Written, Usage, Unread, Unjudged, Unwritten, NoMemory}
use Rattle.dp2ll.specs.Ending.{status_of, complaint_of}
use Rattle.dp2ll.specs.Complaint.{Tells, TellsFront, Complains}
use Rattle.dp2ll.specs.Reading.{BeginsSlot}
use Rattle.dp2ll.specs.Serving.{Desk, RefuseCause, CheckCause, Serves}
use Rattle.dp2ll.specs.Headline.{Run, Headline, desk_before, desk_after, EndsBy, IsFaulty, ReadsFile, WantsMemory, IsRefusal, IsSilent, log_of, KeepsPorts, Sentences}
use Rattle.dp2ll.proofs.Statuses.{at_one, at_two, at_three, at_four}
use Rattle.dp2ll.proofs.Whole.{KnowsReading}
use Rattle.dp2ll.proofs.Ports.{served_texts, silent_run, unlogged, creates_once, stays_unemptied, quiet_run}
use Rattle.dp2ll.proofs.Fits.{run_fits}
use Rattle.dp2ll.proofs.Refusals.{begins_once, names_faulty, names_slot, names_port, faulty_stops}
use Rattle.dp2ll.proofs.Ends.{own_of, ends_by}
use Rattle.dp2ll.proofs.SolveSentences.{solve_sentences}
use Rattle.dp2ll.proofs.TextSentences.{text_sentences}
use Rattle.dp2ll.proofs.CheckSentences.{check_sentences}

-- words that end with a usage fault are no command line
usage_job : (job : Option Job) (before after : Desk) → Serves job before after Usage → job ≡ None
usage_job None before after serves = refl
usage_job (Some (Solve file settings workers log trace)) before after (inl solves) = absurd solves.cause
usage_job (Some (Check file proof)) before after (inl checks) = absurd checks.cause
usage_job (Some (Gen kind n seed)) before after (inl writes) = absurd writes.cause
usage_job (Some (Race kind n settings)) before after (inl writes) = absurd writes.cause
usage_job (Some job) before after (inr gives_up) = let never : Usage ≡ NoMemory = gives_up.cause in cc

-- the words of a run with status 1
faulty_of : (run : Run) → Headline run → run.status ≡ 1 → IsFaulty run
faulty_of run h one =
    let own = own_of run h 1 one (λ e. omega arith) in
    let same = at_one h.how own.0 in
    record {
      no_job = usage_job run.job (desk_before run) (desk_after run)
          (subst (λ (e : Ending). Serves run.job (desk_before run) (desk_after run) e) same h.serves);
      complaint = subst (λ (e : Ending). Tells (complaint_of e) (run.before.at Complaint) (run.after.at Complaint)) same own.1;
    }

-- a run that begins nothing ends with status 1 or 5
refuse_status : (how : Ending) (status : ℕ) (before after : PortTold) → RefuseCause how → Complains (complaint_of how) (status_of how) before after status
    → (status ≡ 1) ⊎ (status ≡ 5)
refuse_status how status before after cause (inr (five, front)) = inr five
refuse_status (Answered verdict) status before after cause (inl told) = absurd cause
refuse_status Written status before after cause (inl told) = absurd cause
refuse_status Usage status before after cause (inl told) = inl told.0
refuse_status (Judged finding) status before after cause (inl told) = absurd cause
refuse_status (Unread stop) status before after cause (inl told) = absurd cause
refuse_status (Unjudged stop) status before after cause (inl told) = absurd cause
refuse_status (Unwritten stop) status before after cause (inl told) = absurd cause
refuse_status NoMemory status before after cause (inl told) = inr told.0

-- words that are no command line end with status 1 or 5
refused_words : (run : Run) → Headline run → run.job ≡ None → (run.status ≡ 1) ⊎ (run.status ≡ 5)
refused_words run h none =
    refuse_status h.how run.status (run.before.at Complaint) (run.after.at Complaint) (rw none at h.serves).cause h.complains

-- the status is that of an ending
some_ending : (complaint : Option (List ℕ)) (how : Ending) (status : ℕ) (before after : PortTold) → Complains complaint (status_of how) before after status
    → (ending : Ending) × (status ≡ status_of ending)
some_ending complaint how status before after (inl (own, tells)) = (how, own)
some_ending complaint how status before after (inr (five, front)) = (NoMemory, five)

-- the log or the answer that failed
unwritten_of : (run : Run) (h : Headline run) → Tells (complaint_of h.how) (run.before.at Complaint) (run.after.at Complaint)
    → (h.how ≡ Unwritten writing.LogFault) ⊎ (h.how ≡ Unwritten writing.AnswerFault)
    → EndsBy run (Unwritten writing.LogFault) ⊎ EndsBy run (Unwritten writing.AnswerFault)
unwritten_of run h tells (inl same) = inl (ends_by run h (Unwritten writing.LogFault) same tells (λ refused. refused))
unwritten_of run h tells (inr same) = inr (ends_by run h (Unwritten writing.AnswerFault) same tells (λ refused. refused))

-- the file that could not be read
unread_of : (run : Run) (h : Headline run) → Tells (complaint_of h.how) (run.before.at Complaint) (run.after.at Complaint)
    → (h.how ≡ Unread reading.ReadFault) ⊎ (h.how ≡ Unjudged proof.ReadFault)
    → EndsBy run (Unread reading.ReadFault) ⊎ EndsBy run (Unjudged proof.ReadFault)
unread_of run h tells (inl same) = inl (ends_by run h (Unread reading.ReadFault) same tells (λ refused. refused))
unread_of run h tells (inr same) = inr (ends_by run h (Unjudged proof.ReadFault) same tells (λ refused. refused))

-- a complaint at status 5 is that of want of memory, or a front of another
five_part : (complaint : Option (List ℕ)) (own status : ℕ) (before after : PortTold) → status ≡ 5 → Complains complaint own before after status
    → ((own ≡ 5) × Tells complaint before after) ⊎ TellsFront complaint before after
five_part complaint own status before after five (inl (is, tells)) = inl (sym is ∙ five, tells)
five_part complaint own status before after five (inr (same, front)) = inr front

-- status 5 is want of memory
memory_of : (run : Run) → Headline run → run.status ≡ 5 → WantsMemory run
memory_of run h five = record {
  how = h.how;
  cause = h.serves;
  complaint = five_part (complaint_of h.how) (status_of h.how) run.status (run.before.at Complaint) (run.after.at Complaint) five h.complains;
}

-- whether the proof was begun
proof_begun : (file proof : List ℕ) (before : Desk) (between : InputsTold) (after : Desk) (how : Ending)
    → CheckCause file proof before between after how → BeginsSlot Proof proof between after.inputs ⊎ (after.inputs ≡ between)
proof_begun file proof before between after (Answered verdict) cause = absurd cause
proof_begun file proof before between after (Judged finding) cause = inl cause.finds.begins.begun
proof_begun file proof before between after Written cause = absurd cause
proof_begun file proof before between after Usage cause = absurd cause
proof_begun file proof before between after (Unread stop) cause = inr cause.no_more
proof_begun file proof before between after (Unjudged stop) cause = inl cause.begins.begun
proof_begun file proof before between after (Unwritten stop) cause = inl cause.finds.begins.begun
proof_begun file proof before between after NoMemory cause = absurd cause

-- only the job's files are begun
inputs_of : (job : Option Job) (before after : Desk) (how : Ending) → Serves job before after how → ReadsFile job before.inputs after.inputs
inputs_of None before after how refuses = ap (λ (d : Desk). d.inputs) refuses.untouched
inputs_of (Some (Solve file settings workers log trace)) before after how (inl solves) = inl solves.begun
inputs_of (Some (Check file proof)) before after how (inl checks) = inl (record {
  between = checks.between;
  first = checks.begun;
  second = proof_begun file proof before checks.between after how checks.cause;
})
inputs_of (Some (Solve file settings workers log trace)) before after how (inr gives_up) = inr (ap (λ (d : Desk). d.inputs) gives_up.untouched)
inputs_of (Some (Check file proof)) before after how (inr gives_up) = inr (ap (λ (d : Desk). d.inputs) gives_up.untouched)
inputs_of (Some (Gen kind n seed)) before after how (inl writes) = writes.unread
inputs_of (Some (Race kind n settings)) before after how (inl writes) = writes.unread
inputs_of (Some (Gen kind n seed)) before after how (inr gives_up) = ap (λ (d : Desk). d.inputs) gives_up.untouched
inputs_of (Some (Race kind n settings)) before after how (inr gives_up) = ap (λ (d : Desk). d.inputs) gives_up.untouched

-- status 2 comes by its cause
no_formula_of : (run : Run) → Headline run → run.status ≡ 2 → (fault : CnfFault) × EndsBy run (Unread (reading.NoFormula fault))
no_formula_of run h two =
    let own = own_of run h 2 two (λ e. omega arith) in
    let at = at_two h.how own.0 in
    (at.0, ends_by run h (Unread (reading.NoFormula at.0)) at.1 own.1 (λ refused. refused))

-- statuses 2 to 5 come by their causes
refusal_of : KnowsReading → (run : Run) → Headline run → IsRefusal run
refusal_of laws run h =
    let unread : run.status ≡ 3 → EndsBy run (Unread reading.ReadFault) ⊎ EndsBy run (Unjudged proof.ReadFault) =
    λ three. let own = own_of run h 3 three (λ e. omega arith) in unread_of run h own.1 (at_three h.how own.0) in
    let unwritten : run.status ≡ 4 → EndsBy run (Unwritten writing.LogFault) ⊎ EndsBy run (Unwritten writing.AnswerFault) =
    λ four. let own = own_of run h 4 four (λ e. omega arith) in unwritten_of run h own.1 (at_four h.how own.0) in
    let inputs = inputs_of run.job (desk_before run) (desk_after run) h.how h.serves in
    record {
      no_formula = no_formula_of run h;
      unread = unread;
      unwritten = unwritten;
      no_memory = memory_of run h;
      inputs = inputs;
      begins = begins_once run.job run.inputs_before run.inputs_after inputs;
      names_fault = λ two. let ends = no_formula_of run h two in names_faulty laws run ends.0 ends.1;
      names_file = λ three. names_slot laws run (unread three);
      names_port = λ four. names_port laws run (unwritten four);
      stops = faulty_stops laws run h;
    }

-- a silent status is the ending's own
silent_own : (complaint : Option (List ℕ)) (own status : ℕ) (before after : PortTold) → Complains complaint own before after status
    → IsSilent status → IsSilent own
silent_own complaint own status before after (inl (is, tells)) silent = rw is at silent
silent_own complaint own status before after (inr (five, front)) silent = let never = rw five at silent in absurd (grind arith)

-- what stands on the ports
ports_of : (run : Run) → Headline run → KeepsPorts run
ports_of run h =
    let texts = served_texts run.job (desk_before run) (desk_after run) h.how h.serves in
    let creates = creates_once run.job (desk_before run) (desk_after run) texts in
    record {
      texts = texts;
      silent = λ silent. silent_run run.job (desk_before run) (desk_after run) h.how
          (silent_own (complaint_of h.how) (status_of h.how) run.status (run.before.at Complaint) (run.after.at Complaint) h.complains silent) h.serves;
      no_log = λ none. unlogged (log_of run.job) (desk_before run).page.log (desk_after run).page.log none creates;
      creates = creates;
      unemptied = stays_unemptied run.job (desk_before run) (desk_after run) texts;
      quiet = quiet_run h.how run.status (run.before.at Complaint) (run.after.at Complaint) h.complains;
      complaint = h;
    }

-- all sentences of a run
pub sentences_of : EarlyFaultStays → EndEndsInput → FaultRefuses → (run : Run) → Headline run → Sentences run
sentences_of stays ends refuses run h =
    let laws : KnowsReading = record { stays = stays; ends = ends } in
    let some = some_ending (complaint_of h.how) h.how run.status (run.before.at Complaint) (run.after.at Complaint) h.complains in
    record {
      words = record { faulty = faulty_of run h; refused = refused_words run h };
      status = record {
        ending = some.0;
        status = some.1;
        fits = run_fits run.job (desk_before run) (desk_after run) h.how (complaint_of h.how) run.status (run.before.at Complaint)
            (run.after.at Complaint) h.serves h.complains;
      };
      solve = solve_sentences laws run h;
      check = check_sentences laws refuses run h;
      text = text_sentences run h;
      refused = refusal_of laws run h;
      ports = ports_of run h;
    }
