-- What a run leaves on log and answer.
use Rattle.std.proofs.Common.{◌≡◌, ◌⊎◌, ◌∙◌, ℕ, Bool, List, [], ◌∷◌, ◌++◌, length, append-nil, length-append, ap, sym, subst, refl, arith, inl, inr, rules, Option, Some, None}
use Rattle.solo_core.specs.declared.sheet.Settings.{Settings}
use Rattle.crew.specs.Log.{log_text}
use Rattle.job_words.specs.declared.job.Job.{Job}
use Rattle.job_words.specs.declared.job.Job.TheVariants.{Solve, Check, Gen, Race}
use Rattle.crew.specs.declared.outcome.Verdict.{Verdict}
use Rattle.dp2ll.specs.declared.ending.WriteStop.{WriteStop}
use Rattle.dp2ll.specs.declared.ending.WriteStop.TheVariants as writing
use Rattle.dp2ll.specs.declared.ending.Ending.{Ending}
use Rattle.dp2ll.specs.declared.ending.Ending.TheVariants.{Answered, Judged, Written, Usage, Unread, Unjudged, Unwritten, NoMemory}
use Rattle.desk_io.specs.Told.{InputsTold, PortTold, raised}
use Rattle.dp2ll.specs.declared.finding.Finding.{Finding}
use Rattle.dp2ll.specs.declared.finding.Finding.TheVariants.{Verified, Flawed}
use Rattle.dp2ll.specs.Ending.{status_of, finding_text, complaint_of}
use Rattle.dp2ll.specs.Complaint.{Tells, Complains}
use Rattle.dp2ll.specs.Outcome.{answer_of}
use Rattle.dp2ll.specs.Logging.{LogTold, names_with, LogsFault, LogsPart}
use Rattle.dp2ll.specs.Answering.{Page, WritesBoth, WritesFronts, CutsTexts}
use Rattle.dp2ll.specs.Making.{gen_text, race_text}
use Rattle.dp2ll.specs.Serving.{Desk, SolveCause, CheckCause, TextCause, Serves}
use Rattle.dp2ll.specs.Headline.{WritesOwn, SaysOwn, LeavesOwn, IsSilent, IsVerdict, log_of, CreatesOnce, StaysUnemptied}

-- whole texts are fronts
pub whole_front : (log : Option (List ℕ)) (log_bytes answer_bytes : List ℕ) (before after : Page) → WritesBoth log log_bytes answer_bytes before after
    → WritesFronts log log_bytes answer_bytes before after
whole_front log log_bytes answer_bytes before after both = inr (record {
  logged = both.logged;
  front = record { done = answer_bytes; rest = []; parts = append-nil answer_bytes; bytes = both.answered };
})

-- a log that failed is cut short
failed_log : (log : Option (List ℕ)) (text : List ℕ) (before after : LogTold) → LogsFault log text before after → LogsPart log text before after
failed_log None text before after fault = absurd fault
failed_log (Some name) text before after fault = inl fault.part

-- texts that were cut short are fronts
cut_texts : (log : Option (List ℕ)) (log_bytes answer_bytes : List ℕ) (before after : Page) (stop : WriteStop)
    → CutsTexts log log_bytes answer_bytes before after stop
    → WritesFronts log log_bytes answer_bytes before after
cut_texts log log_bytes answer_bytes before after writing.LogFault cut =
    inl (record { unanswered = cut.unanswered; part = failed_log log log_bytes before.log after.log cut.failed })
cut_texts log log_bytes answer_bytes before after writing.AnswerFault cut = inr cut.part
cut_texts log log_bytes answer_bytes before after writing.NoMemory cut = cut

-- log and answer after `solve`
solved_texts : (file : List ℕ) (log : Option (List ℕ)) (settings : Settings) (trace : Bool) (before after : Desk) (how : Ending)
    → SolveCause file log settings trace before after how → (after.page ≡ before.page) ⊎ WritesOwn file log settings trace before after
solved_texts file log settings trace before after (Answered verdict) cause = inr (record {
  cnf = cause.cnf;
  read = cause.read;
  texts = whole_front log (log_text cause.cnf settings) (answer_of cause.cnf settings trace) before.page after.page
      cause.answered.texts;
})
solved_texts file log settings trace before after (Judged finding) cause = absurd cause
solved_texts file log settings trace before after Written cause = absurd cause
solved_texts file log settings trace before after Usage cause = absurd cause
solved_texts file log settings trace before after (Unread stop) cause = inl cause.untouched
solved_texts file log settings trace before after (Unjudged stop) cause = absurd cause
solved_texts file log settings trace before after (Unwritten stop) cause = inr (record {
  cnf = cause.cnf;
  read = cause.read;
  texts = cut_texts log (log_text cause.cnf settings) (answer_of cause.cnf settings trace) before.page after.page stop cause.stops;
})
solved_texts file log settings trace before after NoMemory cause = absurd cause

-- log and answer after `check`
checked_texts : (file proof : List ℕ) (before : Desk) (between : InputsTold) (after : Desk) (how : Ending)
    → CheckCause file proof before between after how → (after.page ≡ before.page) ⊎ SaysOwn file proof before after
checked_texts file proof before between after (Answered verdict) cause = absurd cause
checked_texts file proof before between after (Judged finding) cause = inr (record {
  between = between;
  finding = finding;
  finds = cause.finds;
  texts = whole_front None (finding_text finding) (finding_text finding) before.page after.page cause.says;
})
checked_texts file proof before between after Written cause = absurd cause
checked_texts file proof before between after Usage cause = absurd cause
checked_texts file proof before between after (Unread stop) cause = inl cause.untouched
checked_texts file proof before between after (Unjudged stop) cause = inl cause.untouched
checked_texts file proof before between after (Unwritten stop) cause = inr (record {
  between = between;
  finding = cause.finding;
  finds = cause.finds;
  texts = cut_texts None (finding_text cause.finding) (finding_text cause.finding) before.page after.page stop cause.cut;
})
checked_texts file proof before between after NoMemory cause = absurd cause

-- the answer after a command that writes a text
written_texts : (text : List ℕ) (before after : Desk) (how : Ending) → TextCause text before after how → WritesFronts None text text before.page after.page
written_texts text before after (Answered verdict) cause = absurd cause
written_texts text before after (Judged finding) cause = absurd cause
written_texts text before after Written cause = whole_front None text text before.page after.page cause
written_texts text before after Usage cause = absurd cause
written_texts text before after (Unread stop) cause = absurd cause
written_texts text before after (Unjudged stop) cause = absurd cause
written_texts text before after (Unwritten stop) cause = cut_texts None text text before.page after.page stop cause
written_texts text before after NoMemory cause = absurd cause

-- log and answer after any words
pub served_texts : (job : Option Job) (before after : Desk) (how : Ending) → Serves job before after how
    → (after.page ≡ before.page) ⊎ LeavesOwn job before after
served_texts None before after how refuses = inl (ap (λ (d : Desk). d.page) refuses.untouched)
served_texts (Some (Solve file settings workers log trace)) before after how (inl solves) = solved_texts file log settings trace before after how solves.cause
served_texts (Some (Check file proof)) before after how (inl checks) = checked_texts file proof before checks.between after how checks.cause
served_texts (Some (Gen kind n seed)) before after how (inl writes) = inr (written_texts (gen_text kind n seed) before after how writes.cause)
served_texts (Some (Race kind n settings)) before after how (inl writes) = inr (written_texts (race_text kind n settings) before after how writes.cause)
served_texts (Some job) before after how (inr gives_up) = inl (ap (λ (d : Desk). d.page) gives_up.untouched)

-- a verdict has a status at which something may stand on the ports
loud_verdict : (verdict : Verdict) → IsSilent (status_of (Answered verdict)) → ⊥
loud_verdict verdict silent = search rules

-- writing stops with a status at which something may stand on the ports
loud_stop : (stop : WriteStop) → IsSilent (status_of (Unwritten stop)) → ⊥
loud_stop stop silent = search rules

-- `solve` that ended with a silent status wrote nothing
silent_solve : (file : List ℕ) (log : Option (List ℕ)) (settings : Settings) (trace : Bool) (before after : Desk) (how : Ending) → IsSilent (status_of how)
    → SolveCause file log settings trace before after how → after.page ≡ before.page
silent_solve file log settings trace before after (Answered verdict) silent cause = absurd (loud_verdict verdict silent)
silent_solve file log settings trace before after (Judged finding) silent cause = absurd cause
silent_solve file log settings trace before after Written silent cause = absurd cause
silent_solve file log settings trace before after Usage silent cause = absurd cause
silent_solve file log settings trace before after (Unread stop) silent cause = cause.untouched
silent_solve file log settings trace before after (Unjudged stop) silent cause = absurd cause
silent_solve file log settings trace before after (Unwritten stop) silent cause = absurd (loud_stop stop silent)
silent_solve file log settings trace before after NoMemory silent cause = absurd cause

-- a finding has a status at which something may stand on the answer port
loud_finding : (finding : Finding) → IsSilent (status_of (Judged finding)) → ⊥
loud_finding finding silent = search rules

-- `check` that ended with a silent status wrote nothing
silent_check : (file proof : List ℕ) (before : Desk) (between : InputsTold) (after : Desk) (how : Ending) → IsSilent (status_of how)
    → CheckCause file proof before between after how → after.page ≡ before.page
silent_check file proof before between after (Answered verdict) silent cause = absurd cause
silent_check file proof before between after (Judged finding) silent cause = absurd (loud_finding finding silent)
silent_check file proof before between after Written silent cause = absurd cause
silent_check file proof before between after Usage silent cause = absurd cause
silent_check file proof before between after (Unread stop) silent cause = cause.untouched
silent_check file proof before between after (Unjudged stop) silent cause = cause.untouched
silent_check file proof before between after (Unwritten stop) silent cause = absurd (loud_stop stop silent)
silent_check file proof before between after NoMemory silent cause = absurd cause

-- a command that writes a text has no silent status
loud_text : (text : List ℕ) (before after : Desk) (how : Ending) → IsSilent (status_of how) → TextCause text before after how → ⊥
loud_text text before after (Answered verdict) silent cause = cause
loud_text text before after (Judged finding) silent cause = cause
loud_text text before after Written silent cause = loud_finding Verified silent
loud_text text before after Usage silent cause = cause
loud_text text before after (Unread stop) silent cause = cause
loud_text text before after (Unjudged stop) silent cause = cause
loud_text text before after (Unwritten stop) silent cause = loud_stop stop silent
loud_text text before after NoMemory silent cause = cause

-- a run that ended with a silent status wrote nothing
pub silent_run : (job : Option Job) (before after : Desk) (how : Ending) → IsSilent (status_of how) → Serves job before after how
    → after.page ≡ before.page
silent_run None before after how silent refuses = ap (λ (d : Desk). d.page) refuses.untouched
silent_run (Some (Solve file settings workers log trace)) before after how silent (inl solves) =
    silent_solve file log settings trace before after how silent solves.cause
silent_run (Some (Check file proof)) before after how silent (inl checks) =
    silent_check file proof before checks.between after how silent checks.cause
silent_run (Some (Gen kind n seed)) before after how silent (inl writes) = absurd (loud_text (gen_text kind n seed) before after how silent writes.cause)
silent_run (Some (Race kind n settings)) before after how silent (inl writes) = absurd (loud_text (race_text kind n settings) before after how silent writes.cause)
silent_run (Some job) before after how silent (inr gives_up) = ap (λ (d : Desk). d.page) gives_up.untouched

-- texts without a log leave all of logs as it was
pub unlogged_texts : (log_bytes answer_bytes : List ℕ) (before after : Page) → WritesFronts None log_bytes answer_bytes before after
    → after.log ≡ before.log
unlogged_texts log_bytes answer_bytes before after (inl cut) = cut.part
unlogged_texts log_bytes answer_bytes before after (inr cut) = cut.logged

-- texts are written behind at most one creation of a log
created_once : (log : Option (List ℕ)) (log_bytes answer_bytes : List ℕ) (before after : Page) → WritesFronts log log_bytes answer_bytes before after
    → CreatesOnce log before.log after.log
created_once None log_bytes answer_bytes before after texts = unlogged_texts log_bytes answer_bytes before after texts
created_once (Some name) log_bytes answer_bytes before after (inr cut) = inr cut.logged.creates
created_once (Some name) log_bytes answer_bytes before after (inl cut) = inr (by cut.part)
  where
    by : LogsPart (Some name) log_bytes before.log after.log → after.log.creates ≡ raised before.log.creates
    by (inl part) = part.creates
    by (inr lacks) = lacks.creates

-- a page that stays has no log created
same_once : (log : Option (List ℕ)) (before after : LogTold) → after ≡ before → CreatesOnce log before after
same_once None before after same = same
same_once (Some name) before after same = inl (ap (λ (l : LogTold). l.creates) same)

-- a log is created at most once, where one is named
pub creates_once : (job : Option Job) (before after : Desk) → (after.page ≡ before.page) ⊎ LeavesOwn job before after
    → CreatesOnce (log_of job) before.page.log after.page.log
creates_once job before after (inl same) = same_once (log_of job) before.page.log after.page.log (ap (λ (page : Page). page.log) same)
creates_once None before after (inr own) = absurd own
creates_once (Some (Solve file settings workers log trace)) before after (inr own) = created_once log _ _ before.page after.page own.texts
creates_once (Some (Check file proof)) before after (inr own) = unlogged_texts _ _ before.page after.page own.texts
creates_once (Some (Gen kind n seed)) before after (inr own) = unlogged_texts _ _ before.page after.page own
creates_once (Some (Race kind n settings)) before after (inr own) = unlogged_texts _ _ before.page after.page own

-- without a named log nothing of logs changes
pub unlogged : (log : Option (List ℕ)) (before after : LogTold) → log ≡ None → CreatesOnce log before after → after ≡ before
unlogged log before after none once = subst (λ (l : Option (List ℕ)). CreatesOnce l before after) none once

-- names that have one more aren't the same
never_same : (names : List (List ℕ)) (name : List ℕ) → Some (names ++ name ∷ []) ≡ Some names → ⊥
never_same names name same =
    let lists : names ++ name ∷ [] ≡ names = cc in
    omega (arith, ap length lists, length-append names (name ∷ []))

-- where a name was added, none is missing
grown_names : (before after : LogTold) (name : List ℕ) → after.names ≡ names_with before.names name → StaysUnemptied before after
grown_names before after name grown = λ names known now.
    absurd (never_same names name (subst (λ (n : Option (List (List ℕ))). names_with n name ≡ Some names) known (sym grown ∙ now)))

-- a log whose name wasn't added holds what it held
unemptied_texts : (log : Option (List ℕ)) (log_bytes answer_bytes : List ℕ) (before after : Page) → WritesFronts log log_bytes answer_bytes before after
    → StaysUnemptied before.log after.log
unemptied_texts None log_bytes answer_bytes before after texts = λ names known now.
    ap (λ (l : LogTold). l.port.written) (unlogged_texts log_bytes answer_bytes before after texts)
unemptied_texts (Some name) log_bytes answer_bytes before after (inr cut) = grown_names before.log after.log name cut.logged.names
unemptied_texts (Some name) log_bytes answer_bytes before after (inl cut) = by cut.part
  where
    by : LogsPart (Some name) log_bytes before.log after.log → StaysUnemptied before.log after.log
    by (inl part) = grown_names before.log after.log name part.names
    by (inr lacks) = λ names known now. lacks.written

-- the same of a run
pub stays_unemptied : (job : Option Job) (before after : Desk) → (after.page ≡ before.page) ⊎ LeavesOwn job before after
    → StaysUnemptied before.page.log after.page.log
stays_unemptied job before after (inl same) = λ names known now. ap (λ (page : Page). page.log.port.written) same
stays_unemptied None before after (inr own) = absurd own
stays_unemptied (Some (Solve file settings workers log trace)) before after (inr own) = unemptied_texts log _ _ before.page after.page own.texts
stays_unemptied (Some (Check file proof)) before after (inr own) = unemptied_texts None _ _ before.page after.page own.texts
stays_unemptied (Some (Gen kind n seed)) before after (inr own) = unemptied_texts None _ _ before.page after.page own
stays_unemptied (Some (Race kind n settings)) before after (inr own) = unemptied_texts None _ _ before.page after.page own

-- want of memory is no verdict
never_five : (status : ℕ) → status ≡ 5 → IsVerdict status → ⊥
never_five status five (inl ten) = omega (arith, five, ten)
never_five status five (inr (inl twenty)) = omega (arith, five, twenty)
never_five status five (inr (inr zero)) = omega (arith, five, zero)

-- an ending with a verdict's status has no complaint
quiet_ending : (how : Ending) → IsVerdict (status_of how) → complaint_of how ≡ None
quiet_ending (Answered verdict) is = refl
quiet_ending (Judged Verified) is = refl
quiet_ending (Judged (Flawed flaw)) is = absurd (grind arith)
quiet_ending Written is = refl
quiet_ending Usage is = absurd (grind arith)
quiet_ending (Unread stop) is = absurd (search rules)
quiet_ending (Unjudged stop) is = absurd (search rules)
quiet_ending (Unwritten stop) is = absurd (search rules)
quiet_ending NoMemory is = absurd (grind arith)

-- at the status of a verdict the complaint port stays
pub quiet_run : (how : Ending) (status : ℕ) (before after : PortTold) → Complains (complaint_of how) (status_of how) before after status
    → IsVerdict status → after ≡ before
quiet_run how status before after (inl (is, tells)) verdict =
    let none = quiet_ending how (subst (λ s. IsVerdict s) is verdict) in
    subst (λ c. Tells c before after) none tells
quiet_run how status before after (inr (five, front)) verdict = absurd (never_five status five verdict)
