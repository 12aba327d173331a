-- Which statuses a job may have.
use Rattle.std.proofs.Common.{◌≡◌, ◌⊎◌, ℕ, List, Bool, inl, inr, sym, subst, refl, Option, Some, None}
use Rattle.desk_io.specs.Told.{InputsTold, PortTold}
use Rattle.solo_core.specs.declared.sheet.Settings.{Settings}
use Rattle.crew.specs.declared.outcome.Verdict.{Verdict}
use Rattle.crew.specs.declared.outcome.Verdict.TheVariants.{Sat, Unsat, Unknown}
use Rattle.job_words.specs.declared.job.Job.{Job}
use Rattle.job_words.specs.declared.job.Job.TheVariants.{Solve, Check, Gen, Race}
use Rattle.dp2ll.specs.declared.finding.Finding.{Finding}
use Rattle.dp2ll.specs.declared.finding.Finding.TheVariants.{Verified, Flawed}
use Rattle.dp2ll.specs.declared.ending.ReadStop.{ReadStop}
use Rattle.dp2ll.specs.declared.ending.ReadStop.TheVariants as reading
use Rattle.dp2ll.specs.declared.ending.ProofStop.{ProofStop}
use Rattle.dp2ll.specs.declared.ending.ProofStop.TheVariants as proof
use Rattle.dp2ll.specs.declared.ending.WriteStop.{WriteStop}
use Rattle.dp2ll.specs.declared.ending.WriteStop.TheVariants as writing
use Rattle.dp2ll.specs.declared.ending.Ending.{Ending}
use Rattle.dp2ll.specs.declared.ending.Ending.TheVariants.{Answered, Judged, Written, Usage, Unread, Unjudged, Unwritten, NoMemory}
use Rattle.dp2ll.specs.Ending.{verdict_status, read_status, proof_status, write_status, finding_status, status_of}
use Rattle.dp2ll.specs.Complaint.{Complains}
use Rattle.dp2ll.specs.Serving.{Desk, SolveCause, CheckCause, TextCause, RefuseCause, Serves}
use Rattle.dp2ll.specs.Headline.{IsVerdict, IsStop, FitsJob}

-- a verdict has the status of one
verdict_fits : (verdict : Verdict) → IsVerdict (verdict_status verdict)
verdict_fits Sat = inl refl
verdict_fits Unsat = inr (inl refl)
verdict_fits Unknown = inr (inr refl)

-- a finding has status 0 or 6
finding_fits : (finding : Finding) → (finding_status finding ≡ 0) ⊎ (finding_status finding ≡ 6)
finding_fits Verified = inl refl
finding_fits (Flawed flaw) = inr refl

-- reading stops with status 2, 3 or 5
read_fits : (stop : ReadStop) → IsStop (read_status stop)
read_fits (reading.NoFormula fault) = inl refl
read_fits reading.ReadFault = inr (inl refl)
read_fits reading.NoMemory = inr (inr (inr refl))

-- judging stops with status 3 or 5
proof_fits : (stop : ProofStop) → IsStop (proof_status stop)
proof_fits proof.ReadFault = inr (inl refl)
proof_fits proof.NoMemory = inr (inr (inr refl))

-- writing stops with status 4 or 5
write_fits : (stop : WriteStop) → (write_status stop ≡ 4) ⊎ (write_status stop ≡ 5)
write_fits writing.LogFault = inl refl
write_fits writing.AnswerFault = inl refl
write_fits writing.NoMemory = inr refl

-- want of memory fits each job
pub memory_fits : (job : Option Job) → FitsJob job 5
memory_fits None = inr refl
memory_fits (Some (Solve file settings workers log trace)) = inr (inr (inr (inr refl)))
memory_fits (Some (Check file other)) = inr (inr (inr (inr refl)))
memory_fits (Some (Gen kind n seed)) = inr (inr refl)
memory_fits (Some (Race kind n settings)) = inr (inr refl)

-- words that are no command line
refused_fits : (how : Ending) → RefuseCause how → FitsJob None (status_of how)
refused_fits (Answered verdict) cause = absurd cause
refused_fits (Judged finding) cause = absurd cause
refused_fits Written cause = absurd cause
refused_fits Usage cause = inl refl
refused_fits (Unread stop) cause = absurd cause
refused_fits (Unjudged stop) cause = absurd cause
refused_fits (Unwritten stop) cause = absurd cause
refused_fits NoMemory cause = inr refl

-- `solve`
solve_fits : (file : List ℕ) (log : Option (List ℕ)) (settings : Settings) (trace : Bool) (before after : Desk) (how : Ending)
    → SolveCause file log settings trace before after how → IsVerdict (status_of how) ⊎ IsStop (status_of how)
solve_fits file log settings trace before after (Answered verdict) cause = inl (verdict_fits verdict)
solve_fits file log settings trace before after (Judged finding) cause = absurd cause
solve_fits file log settings trace before after Written cause = absurd cause
solve_fits file log settings trace before after Usage cause = absurd cause
solve_fits file log settings trace before after (Unread stop) cause = inr (read_fits stop)
solve_fits file log settings trace before after (Unjudged stop) cause = absurd cause
solve_fits file log settings trace before after (Unwritten stop) cause = inr (inr (inr (write_fits stop)))
solve_fits file log settings trace before after NoMemory cause = absurd cause

-- `check`
check_fits : (file other : List ℕ) (before : Desk) (between : InputsTold) (after : Desk) (how : Ending)
    → CheckCause file other before between after how
    → ((status_of how ≡ 0) ⊎ (status_of how ≡ 6)) ⊎ IsStop (status_of how)
check_fits file other before between after (Answered verdict) cause = absurd cause
check_fits file other before between after (Judged finding) cause = inl (finding_fits finding)
check_fits file other before between after Written cause = absurd cause
check_fits file other before between after Usage cause = absurd cause
check_fits file other before between after (Unread stop) cause = inr (read_fits stop)
check_fits file other before between after (Unjudged stop) cause = inr (proof_fits stop)
check_fits file other before between after (Unwritten stop) cause = inr (inr (inr (write_fits stop)))
check_fits file other before between after NoMemory cause = absurd cause

-- a command that writes a text
text_fits : (text : List ℕ) (before after : Desk) (how : Ending) → TextCause text before after how
    → (status_of how ≡ 0) ⊎ ((status_of how ≡ 4) ⊎ (status_of how ≡ 5))
text_fits text before after (Answered verdict) cause = absurd cause
text_fits text before after (Judged finding) cause = absurd cause
text_fits text before after Written cause = inl refl
text_fits text before after Usage cause = absurd cause
text_fits text before after (Unread stop) cause = absurd cause
text_fits text before after (Unjudged stop) cause = absurd cause
text_fits text before after (Unwritten stop) cause = inr (write_fits stop)
text_fits text before after NoMemory cause = absurd cause

-- the status of an ending that came by its cause
ending_fits : (job : Option Job) (before after : Desk) (how : Ending) → Serves job before after how → FitsJob job (status_of how)
ending_fits None before after how refuses = refused_fits how refuses.cause
ending_fits (Some (Solve file settings workers log trace)) before after how (inl solves) =
    solve_fits file log settings trace before after how solves.cause
ending_fits (Some (Check file other)) before after how (inl checks) = check_fits file other before checks.between after how checks.cause
ending_fits (Some (Gen kind n seed)) before after how (inl writes) = text_fits _ before after how writes.cause
ending_fits (Some (Race kind n settings)) before after how (inl writes) = text_fits _ before after how writes.cause
ending_fits (Some job) before after how (inr gives_up) =
    subst (λ (e : Ending). FitsJob (Some job) (status_of e)) (sym gives_up.cause) (memory_fits (Some job))

-- and that of its run
status_fits : (job : Option Job) (complaint : Option (List ℕ)) (own status : ℕ) (before after : PortTold) → FitsJob job own
    → Complains complaint own before after status → FitsJob job status
status_fits job complaint own status before after fits (inl (is, tells)) = subst (λ s. FitsJob job s) (sym is) fits
status_fits job complaint own status before after fits (inr (five, front)) = subst (λ s. FitsJob job s) (sym five) (memory_fits job)

-- a run has a status that fits its job
pub run_fits : (job : Option Job) (before after : Desk) (how : Ending) (complaint : Option (List ℕ)) (status : ℕ) (port ported : PortTold)
    → Serves job before after how → Complains complaint (status_of how) port ported status → FitsJob job status
run_fits job before after how complaint status port ported serves complains =
    status_fits job complaint (status_of how) status port ported (ending_fits job before after how serves) complains
