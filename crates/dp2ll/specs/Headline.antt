-- What a run of the program promises: its status, its answer, its log and its complaint, and when each comes.
use Rattle.std.specs.Prelude.{◌≡◌, ◌⊎◌, ◌↔◌, ℕ, List, Bool, false, if◌then◌else◌, ◌++◌, codes, Option, Some, None, IsSome, Result, Ok, Err, String, string_bytes, map}
use Rattle.std.specs.declared.alloc.Global.{Global}
use Rattle.std.specs.Io.KnownBytes.{append_known}
use Rattle.lit_base.specs.Cnf.{Cnf}
use Rattle.lit_base.specs.Text.{values_text}
use Rattle.lit_base.specs.Judgement.{checks, Checks, HasNoModel}
use Rattle.lrat_text.specs.Reading.{Steps, proof_steps}
use Rattle.desk_io.specs.Told.{InputsTold, SlotTold, OutputsTold, raised, Rose}
use Rattle.desk_io.specs.declared.Slot.{Slot}
use Rattle.desk_io.specs.declared.Slot.TheVariants.{Formula, Proof}
use Rattle.desk_io.specs.declared.Port.{Port}
use Rattle.desk_io.specs.declared.Port.TheVariants.{Answer, Log, Complaint}
use Rattle.cnf_text.specs.declared.fault.CnfFault.{CnfFault}
use Rattle.cnf_text.specs.Reading.{formula_of}
use Rattle.solo_core.specs.declared.sheet.Settings.{Settings}
use Rattle.job_words.specs.declared.job.Job.{Job}
use Rattle.job_words.specs.declared.job.Job.TheVariants.{Solve, Check, Gen, Race}
use Rattle.crew.specs.declared.outcome.Verdict.TheVariants.{Sat, Unsat, Unknown}
use Rattle.crew.specs.Log.{log_text}
use Rattle.crew.specs.Outcome.{outcome_of}
use Rattle.answer_text.specs.Answer.{trace_text}
use Rattle.dp2ll.specs.declared.ending.ReadStop.TheVariants as reading
use Rattle.dp2ll.specs.declared.ending.ProofStop.TheVariants as proof
use Rattle.dp2ll.specs.declared.ending.WriteStop.{WriteStop}
use Rattle.dp2ll.specs.declared.ending.WriteStop.TheVariants as writing
use Rattle.dp2ll.specs.declared.finding.Flaw.{Flaw}
use Rattle.dp2ll.specs.declared.finding.Finding.{Finding}
use Rattle.dp2ll.specs.declared.finding.Finding.TheVariants.{Verified, Flawed}
use Rattle.dp2ll.specs.declared.ending.Ending.{Ending}
use Rattle.dp2ll.specs.declared.ending.Ending.TheVariants.{Answered, Judged, Written, Usage, Unread, Unjudged, Unwritten}
use Rattle.job_words.specs.Job.{job_of}
use Rattle.dp2ll.specs.Making.{gen_text, race_text}
use Rattle.dp2ll.specs.Ending.{verdict_status, status_of, complaint_of, finding_text, flaw_complaint}
use Rattle.dp2ll.specs.Outcome.{answer_of, FindsModel, IsRefuted, AreAllSpent}
use Rattle.dp2ll.specs.Logging.{LogTold, log_told, names_with, LogsWhole}
use Rattle.dp2ll.specs.Answering.{WritesBoth, WritesFronts}
use Rattle.dp2ll.specs.Complaint.{Tells, TellsFront, Complains}
use Rattle.dp2ll.specs.Reading.{BeginsSlot, BeginsFormula, IsNoFormula, IsReadFault}
use Rattle.dp2ll.specs.Judging.{IsFlaw, IsProofFault}
use Rattle.dp2ll.specs.Serving.{Desk, desk, ReadsAs, FindsProof, ServesJob, Serves}

-- one call of the program: its job, what inputs and outputs told before and after it, and its exit status
pub record Run : Type 0 where
  pub job : Option Job
  pub inputs_before : InputsTold
  pub inputs_after : InputsTold
  pub before : OutputsTold
  pub after : OutputsTold
  pub status : ℕ

-- the call with these words
abbrev pub run_of : List (String Global) → InputsTold → InputsTold → OutputsTold → OutputsTold → ℕ → Run
run_of words inputs_before inputs_after before after status = record {
  job = job_of (map string_bytes words);
  inputs_before = inputs_before;
  inputs_after = inputs_after;
  before = before;
  after = after;
  status = status;
}

-- the desk before the call
abbrev pub desk_before : Run → Desk
desk_before run = desk run.inputs_before run.before

-- the desk after the call
abbrev pub desk_after : Run → Desk
desk_after run = desk run.inputs_after run.after

-- the whole of a run: how serving its words ended, what that says of its file, its log and its answer, and what the complaint of it leaves
pub record Headline (run : Run) : Type 0 where
  pub how : Ending
  pub serves : Serves run.job (desk_before run) (desk_after run) how
  pub complains : Complains (complaint_of how) (status_of how) (run.before.at Complaint) (run.after.at Complaint) run.status

-- the job is `solve` on a file, with a log or none, with settings, and with a trace or without, of which this holds; how many workers
-- it is to have makes no difference
abbrev pub OnSolve : Option Job → (List ℕ → Option (List ℕ) → Settings → Bool → Type 0) → Type 0
OnSolve None P = ⊥
OnSolve (Some (Solve file settings workers log trace)) P = P file log settings trace
OnSolve (Some (Check file proof)) P = ⊥
OnSolve (Some (Gen kind n seed)) P = ⊥
OnSolve (Some (Race kind n settings)) P = ⊥

-- the job is `check` of a formula's file and a proof's, of which this holds
abbrev pub OnCheck : Option Job → (List ℕ → List ℕ → Type 0) → Type 0
OnCheck None P = ⊥
OnCheck (Some (Solve file settings workers log trace)) P = ⊥
OnCheck (Some (Check file proof)) P = P file proof
OnCheck (Some (Gen kind n seed)) P = ⊥
OnCheck (Some (Race kind n settings)) P = ⊥

-- the job is `gen` or `race`, which answers with a text of which this holds
abbrev pub OnText : Option Job → (List ℕ → Type 0) → Type 0
OnText None P = ⊥
OnText (Some (Solve file settings workers log trace)) P = ⊥
OnText (Some (Check file proof)) P = ⊥
OnText (Some (Gen kind n seed)) P = P (gen_text kind n seed)
OnText (Some (Race kind n settings)) P = P (race_text kind n settings)

-- the job is `solve`
abbrev pub IsSolve : Option Job → Type 0
IsSolve job = OnSolve job (λ file log settings trace. Unit {0})

-- the job is `check`
abbrev pub IsCheck : Option Job → Type 0
IsCheck job = OnCheck job (λ file proof. Unit {0})

-- the job is `gen` or `race`
abbrev pub WritesOwnText : Option Job → Type 0
WritesOwnText job = OnText job (λ text. Unit {0})

-- the command ended like this by its cause, and its complaint was told
pub record EndsBy (run : Run) (how : Ending) : Type 0 where
  pub serves : ServesJob run.job (desk_before run) (desk_after run) how
  pub complaint : Tells (complaint_of how) (run.before.at Complaint) (run.after.at Complaint)

-- the words are no command line, and the complaint says how to call the program
pub record IsFaulty (run : Run) : Type 0 where
  pub no_job : run.job ≡ None
  pub complaint : Tells (complaint_of Usage) (run.before.at Complaint) (run.after.at Complaint)

-- status 1 comes exactly for words that are no command line, but for want of memory
pub record Words (run : Run) : Type 0 where
  pub faulty : run.status ≡ 1 → IsFaulty run
  pub refused : run.job ≡ None → (run.status ≡ 1) ⊎ (run.status ≡ 5)

-- statuses 10, 20 and 0 come only where the file is a formula whose run has that verdict, and then log and answer hold exactly
-- the texts of the run
pub record IsSolved (run : Run) : Type 0 where
  pub satisfiable : run.status ≡ 10 → EndsBy run (Answered Sat)
  pub unsatisfiable : run.status ≡ 20 → EndsBy run (Answered Unsat)
  pub given_up : run.status ≡ 0 → EndsBy run (Answered Unknown)

-- the statuses of a command that reads files and gives no answer
abbrev pub IsStop : ℕ → Type 0
IsStop status = (status ≡ 2) ⊎ ((status ≡ 3) ⊎ ((status ≡ 4) ⊎ (status ≡ 5)))

-- the statuses of a run that has a verdict
abbrev pub IsVerdict : ℕ → Type 0
IsVerdict status = (status ≡ 10) ⊎ (status ≡ 20) ⊎ (status ≡ 0)

-- the status is one of those that the job may have: no command has that of another
abbrev pub FitsJob : Option Job → ℕ → Type 0
FitsJob None status = (status ≡ 1) ⊎ (status ≡ 5)
FitsJob (Some (Solve file settings workers log trace)) status = IsVerdict status ⊎ IsStop status
FitsJob (Some (Check file proof)) status = ((status ≡ 0) ⊎ (status ≡ 6)) ⊎ IsStop status
FitsJob (Some (Gen kind n seed)) status = (status ≡ 0) ⊎ ((status ≡ 4) ⊎ (status ≡ 5))
FitsJob (Some (Race kind n settings)) status = (status ≡ 0) ⊎ ((status ≡ 4) ⊎ (status ≡ 5))

-- the status is that of an ending, and fits the job
pub record HasStatus (run : Run) : Type 0 where
  pub ending : Ending
  pub status : run.status ≡ status_of ending
  pub fits : FitsJob run.job run.status

-- where the file is told, it is this formula
abbrev pub IsToldFormula : Run → List ℕ → Cnf → Type 0
IsToldFormula run file cnf = (bytes : List ℕ) → run.inputs_before.held Formula file ≡ Some bytes → formula_of bytes ≡ Ok cnf

-- the printed model is one that the run found: it has a value for each variable and satisfies the formula, which is the file's
pub record PrintsModel (run : Run) (file : List ℕ) (settings : Settings) (trace : Bool) : Type 0 where
  pub cnf : Cnf
  pub model : List Bool
  pub found : FindsModel cnf settings model
  pub printed : (run.after.at Answer).written ≡ append_known (run.before.at Answer).written
      (trace_text (outcome_of cnf settings) settings trace ++ (codes "s SATISFIABLE\n" ++ values_text model))
  pub told : IsToldFormula run file cnf

-- at status 10 a model is printed, and it satisfies the formula
abbrev pub IsModel : Run → Type 0
IsModel run = run.status ≡ 10 → OnSolve run.job (λ file log settings trace. PrintsModel run file settings trace)

-- the log is that of a proof that checks, so no model satisfies the formula, which is the file's
pub record PrintsProof (run : Run) (file : List ℕ) (log : Option (List ℕ)) (settings : Settings) : Type 0 where
  pub cnf : Cnf
  pub refuted : IsRefuted cnf settings
  pub logged : LogsWhole log (log_text cnf settings) (log_told run.before) (log_told run.after)
  pub told : IsToldFormula run file cnf

-- at status 20 the proof checks, and a log that is named holds exactly its lines
abbrev pub IsRefutation : Run → Type 0
IsRefutation run = run.status ≡ 20 → OnSolve run.job (λ file log settings trace. PrintsProof run file log settings)

-- the status is 0 exactly where each core has spent its limit on the formula, which is the file's
pub record GivesUpSpent (run : Run) (file : List ℕ) (settings : Settings) : Type 0 where
  pub cnf : Cnf
  pub spent : (run.status ≡ 0) ↔ AreAllSpent cnf settings
  pub told : IsToldFormula run file cnf

-- of the three verdicts, unknown comes exactly where every core has spent its limit
abbrev pub IsUnknown : Run → Type 0
IsUnknown run = IsVerdict run.status → OnSolve run.job (λ file log settings trace. GivesUpSpent run file settings)

-- the formula's slot was begun with this file, and then the proof's with that, or not at all
pub record ReadsTwo (file proof : List ℕ) (before after : InputsTold) : Type 0 where
  pub between : InputsTold
  pub first : BeginsFormula file before between
  pub second : BeginsSlot Proof proof between after ⊎ (after ≡ between)

-- a slot is begun at most once, with the file that the job names for it, and nothing else of the inputs changes
abbrev pub ReadsFile : Option Job → InputsTold → InputsTold → Type 0
ReadsFile None before after = after ≡ before
ReadsFile (Some (Solve file settings workers log trace)) before after = BeginsFormula file before after ⊎ (after ≡ before)
ReadsFile (Some (Check file proof)) before after = ReadsTwo file proof before after ⊎ (after ≡ before)
ReadsFile (Some (Gen kind n seed)) before after = after ≡ before
ReadsFile (Some (Race kind n settings)) before after = after ≡ before

-- the run ended for want of memory, with its line, or memory was refused to the complaint of another ending whose cause holds
pub record WantsMemory (run : Run) : Type 0 where
  pub how : Ending
  pub cause : Serves run.job (desk_before run) (desk_after run) how
  pub complaint : ((status_of how ≡ 5) × Tells (complaint_of how) (run.before.at Complaint) (run.after.at Complaint))
      ⊎ TellsFront (complaint_of how) (run.before.at Complaint) (run.after.at Complaint)

-- the file that the job names for a slot, where it names one
abbrev pub file_of : Option Job → Slot → Option (List ℕ)
file_of None slot = None
file_of (Some (Solve file settings workers log trace)) Formula = Some file
file_of (Some (Solve file settings workers log trace)) Proof = None
file_of (Some (Check file proof)) Formula = Some file
file_of (Some (Check file proof)) Proof = Some proof
file_of (Some (Gen kind n seed)) slot = None
file_of (Some (Race kind n settings)) slot = None

-- the log that the job names, where it names one
abbrev pub log_of : Option Job → Option (List ℕ)
log_of None = None
log_of (Some (Solve file settings workers log trace)) = log
log_of (Some (Check file proof)) = None
log_of (Some (Gen kind n seed)) = None
log_of (Some (Race kind n settings)) = None

-- a slot for which the job names a file is begun at most once; any other stays as it was
abbrev pub BeginsOnce : Option (List ℕ) → SlotTold → SlotTold → Type 0
BeginsOnce None before after = after ≡ before
BeginsOnce (Some file) before after = (after.begins ≡ before.begins) ⊎ (after.begins ≡ raised before.begins)

-- where the file is told, it is no formula, by this fault
abbrev pub IsFaultyFile : Run → List ℕ → CnfFault → Type 0
IsFaultyFile run file fault = (bytes : List ℕ) → run.inputs_before.held Formula file ≡ Some bytes → formula_of bytes ≡ Err fault

-- what was taken of the job's file for the formula has this fault already, or has it as the whole, and the complaint names it
-- with its line
pub record NamesFaulty (run : Run) (file : List ℕ) (fault : CnfFault) : Type 0 where
  pub named : file_of run.job Formula ≡ Some file
  pub stops : IsNoFormula (run.inputs_before.held Formula file) (run.inputs_after.at Formula).left fault
  pub told : IsFaultyFile run file fault
  pub complaint : Tells (complaint_of (Unread (reading.NoFormula fault))) (run.before.at Complaint) (run.after.at Complaint)

-- the slot of the formula was begun with the job's file, told or not, a call on it failed, what was taken of the file decides
-- nothing yet, and the complaint says so
pub record CannotReadFormula (run : Run) (file : List ℕ) : Type 0 where
  pub named : file_of run.job Formula ≡ Some file
  pub begun : (run.inputs_after.at Formula).begun ≡ run.inputs_before.held Formula file
  pub stops : IsReadFault (run.inputs_before.held Formula file) (run.inputs_after.at Formula).left (run.inputs_before.at Formula).faults
      (run.inputs_after.at Formula).faults
  pub complaint : Tells (complaint_of (Unread reading.ReadFault)) (run.before.at Complaint) (run.after.at Complaint)

-- the same of the proof's slot, where the job's file for the formula is one
pub record CannotReadProof (run : Run) (file proof_file : List ℕ) : Type 0 where
  pub cnf : Cnf
  pub named : (file_of run.job Formula ≡ Some file) × (file_of run.job Proof ≡ Some proof_file)
  pub told : IsToldFormula run file cnf
  pub begun : (run.inputs_after.at Proof).begun ≡ run.inputs_before.held Proof proof_file
  pub stops : IsProofFault cnf (run.inputs_before.held Proof proof_file) (run.inputs_after.at Proof).left (run.inputs_before.at Proof).faults
      (run.inputs_after.at Proof).faults
  pub complaint : Tells (complaint_of (Unjudged proof.ReadFault)) (run.before.at Complaint) (run.after.at Complaint)

-- the file that the complaint names could not be read
abbrev pub CannotRead : Run → Type 0
CannotRead run =
    ((file : List ℕ) × CannotReadFormula run file) ⊎ ((file : List ℕ) × ((proof_file : List ℕ) × CannotReadProof run file proof_file))

-- a call on the port failed, and the complaint says so
pub record CannotWrite (run : Run) (port : Port) (stop : WriteStop) : Type 0 where
  pub rose : Rose (run.before.at port).faults (run.after.at port).faults
  pub complaint : Tells (complaint_of (Unwritten stop)) (run.before.at Complaint) (run.after.at Complaint)

-- a log that is named was created once, under its name; without one nothing of logs changed
abbrev pub GrowsByName : Option (List ℕ) → LogTold → LogTold → Type 0
GrowsByName None before after = after ≡ before
GrowsByName (Some name) before after = (after.creates ≡ raised before.creates) × (after.names ≡ names_with before.names name)

-- where the job names a file for the formula, it is one
abbrev pub ReadsFormula : Run → Type 0
ReadsFormula run = (file : List ℕ) → file_of run.job Formula ≡ Some file → (cnf : Cnf) × IsToldFormula run file cnf

-- the log that the job names, or the answer, could not be written, behind a formula that was read
pub record IsUnwrittenRun (run : Run) : Type 0 where
  pub port : (IsSome (log_of run.job) × CannotWrite run Log writing.LogFault) ⊎ CannotWrite run Answer writing.AnswerFault
  pub names : GrowsByName (log_of run.job) (log_told run.before) (log_told run.after)
  pub formula : ReadsFormula run

-- the file has this fault, and the complaint says so
pub record RefusesFile (fault : CnfFault) (run : Run) : Type 0 where
  pub status : run.status ≡ 2
  pub complaint : Tells (complaint_of (Unread (reading.NoFormula fault))) (run.before.at Complaint) (run.after.at Complaint)

-- the run ended at its file, which has this fault, or before it: neither log nor answer was touched
pub record StopsAtFile (run : Run) (file : List ℕ) (fault : CnfFault) : Type 0 where
  pub ended : RefusesFile fault run ⊎ (((run.status ≡ 3) × CannotReadFormula run file) ⊎ (run.status ≡ 5))
  pub untouched : (desk_after run).page ≡ (desk_before run).page

-- a told file that is no formula ends the run, whatever failed
abbrev pub FaultyFileStops : Run → Type 0
FaultyFileStops run =
    (file bytes : List ℕ) (fault : CnfFault) → file_of run.job Formula ≡ Some file → run.inputs_before.held Formula file ≡ Some bytes
    → formula_of bytes ≡ Err fault → StopsAtFile run file fault

-- statuses 2 to 5 come only by their causes, with the complaint of that cause, and whatever comes, only the job's file is begun
pub record IsRefusal (run : Run) : Type 0 where
  pub no_formula : run.status ≡ 2 → (fault : CnfFault) × EndsBy run (Unread (reading.NoFormula fault))
  pub unread : run.status ≡ 3 → EndsBy run (Unread reading.ReadFault) ⊎ EndsBy run (Unjudged proof.ReadFault)
  pub unwritten : run.status ≡ 4 → EndsBy run (Unwritten writing.LogFault) ⊎ EndsBy run (Unwritten writing.AnswerFault)
  pub no_memory : run.status ≡ 5 → WantsMemory run
  pub inputs : ReadsFile run.job run.inputs_before run.inputs_after
  pub begins : (slot : Slot) → BeginsOnce (file_of run.job slot) (run.inputs_before.at slot) (run.inputs_after.at slot)
  pub names_fault : run.status ≡ 2 → (file : List ℕ) × ((fault : CnfFault) × NamesFaulty run file fault)
  pub names_file : run.status ≡ 3 → CannotRead run
  pub names_port : run.status ≡ 4 → IsUnwrittenRun run
  pub stops : FaultyFileStops run

-- the file is this formula, and of the texts of its run a front of the log stands and nothing of the answer, or the whole log
-- and a front of the answer
pub record WritesOwn (file : List ℕ) (log : Option (List ℕ)) (settings : Settings) (trace : Bool) (before after : Desk) : Type 0 where
  pub cnf : Cnf
  pub read : ReadsAs file before after cnf
  pub texts : WritesFronts log (log_text cnf settings) (answer_of cnf settings trace) before.page after.page

-- this was found of the proof, a front of the answer that says so stands, and nothing of logs changed
pub record SaysOwn (file proof : List ℕ) (before after : Desk) : Type 0 where
  pub between : InputsTold
  pub finding : Finding
  pub finds : FindsProof file proof before between after finding
  pub texts : WritesFronts None (finding_text finding) (finding_text finding) before.page after.page

-- what a command leaves of its own texts
abbrev pub LeavesOwn : Option Job → Desk → Desk → Type 0
LeavesOwn None before after = ⊥
LeavesOwn (Some (Solve file settings workers log trace)) before after = WritesOwn file log settings trace before after
LeavesOwn (Some (Check file proof)) before after = SaysOwn file proof before after
LeavesOwn (Some (Gen kind n seed)) before after = WritesFronts None (gen_text kind n seed) (gen_text kind n seed) before.page after.page
LeavesOwn (Some (Race kind n settings)) before after = WritesFronts None (race_text kind n settings) (race_text kind n settings) before.page after.page

-- the statuses at which neither log nor answer is touched
abbrev pub IsSilent : ℕ → Type 0
IsSilent status = (status ≡ 1) ⊎ (status ≡ 2) ⊎ (status ≡ 3)

-- a log is created at most once, where one is named; else nothing of logs changes
abbrev pub CreatesOnce : Option (List ℕ) → LogTold → LogTold → Type 0
CreatesOnce None before after = after ≡ before
CreatesOnce (Some name) before after = (after.creates ≡ before.creates) ⊎ (after.creates ≡ raised before.creates)

-- where the names of logs are told and none was added, the log port holds what it held
abbrev pub StaysUnemptied : LogTold → LogTold → Type 0
StaysUnemptied before after = (names : List (List ℕ)) → before.names ≡ Some names → after.names ≡ Some names → after.port.written ≡ before.port.written

-- what stands on the ports at every return: on log and answer the file's own texts, and the complaint of how the run ended
pub record KeepsPorts (run : Run) : Type 0 where
  pub texts : ((desk_after run).page ≡ (desk_before run).page) ⊎ LeavesOwn run.job (desk_before run) (desk_after run)
  pub silent : IsSilent run.status → (desk_after run).page ≡ (desk_before run).page
  pub no_log : log_of run.job ≡ None → log_told run.after ≡ log_told run.before
  pub creates : CreatesOnce (log_of run.job) (log_told run.before) (log_told run.after)
  pub unemptied : StaysUnemptied (log_told run.before) (log_told run.after)
  pub quiet : IsVerdict run.status → run.after.at Complaint ≡ run.before.at Complaint
  pub complaint : Headline run

-- no call on log or answer failed
pub record IsCalm (run : Run) : Type 0 where
  pub log : ¬ Rose (run.before.at Log).faults (run.after.at Log).faults
  pub answer : ¬ Rose (run.before.at Answer).faults (run.after.at Answer).faults

-- the run has the verdict of this status, and its log and answer are written
pub record AnswersFormula (cnf : Cnf) (log : Option (List ℕ)) (settings : Settings) (trace : Bool) (run : Run) : Type 0 where
  pub status : run.status ≡ verdict_status (outcome_of cnf settings).verdict
  pub texts : WritesBoth log (log_text cnf settings) (answer_of cnf settings trace) (desk_before run).page (desk_after run).page

-- the status and the texts of a file, which may be no formula; want of memory may always come
abbrev pub AnswersFile : Result Cnf CnfFault → Option (List ℕ) → Settings → Bool → Run → Type 0
AnswersFile (Ok cnf) log settings trace run = IsCalm run → AnswersFormula cnf log settings trace run ⊎ (run.status ≡ 5)
AnswersFile (Err fault) log settings trace run = RefusesFile fault run ⊎ (run.status ≡ 5)

-- where the file is told and no call on its slot failed, its bytes alone decide
abbrev pub IsComplete : Run → Type 0
IsComplete run =
    (file : List ℕ) (log : Option (List ℕ)) (settings : Settings) (trace : Bool) (workers : ℕ) (bytes : List ℕ)
    → run.job ≡ Some (Solve file settings workers log trace)
    → run.inputs_before.held Formula file ≡ Some bytes
    → ¬ Rose (run.inputs_before.at Formula).faults (run.inputs_after.at Formula).faults
    → AnswersFile (formula_of bytes) log settings trace run

-- == `check` ==

-- where the proof is told, it reads as steps of which this holds
abbrev pub OnToldProof : Run → List ℕ → (Steps → Type 0) → Type 0
OnToldProof run proof P = (bytes : List ℕ) → run.inputs_before.held Proof proof ≡ Some bytes → P (proof_steps bytes)

-- the answer says that the proof checks; it does, and no model satisfies the formula, which is the file's
pub record SaysVerified (run : Run) (file proof : List ℕ) : Type 0 where
  pub cnf : Cnf
  pub checked : OnToldProof run proof (λ steps. Checks cnf steps.lines)
  pub no_model : HasNoModel cnf
  pub printed : (run.after.at Answer).written ≡ append_known (run.before.at Answer).written (codes "s VERIFIED\n")
  pub told : IsToldFormula run file cnf

-- the answer says that the proof doesn't check, and the complaint why: it has this flaw, and is no proof of the formula, which
-- is the file's
pub record SaysFlaw (run : Run) (file proof : List ℕ) : Type 0 where
  pub cnf : Cnf
  pub flaw : Flaw
  pub found : OnToldProof run proof (λ steps. IsFlaw cnf steps flaw)
  pub unchecked : OnToldProof run proof (λ steps. checks cnf steps.lines ≡ false)
  pub printed : (run.after.at Answer).written ≡ append_known (run.before.at Answer).written (codes "s NOT VERIFIED\n")
  pub complaint : Tells (Some (flaw_complaint flaw)) (run.before.at Complaint) (run.after.at Complaint)
  pub told : IsToldFormula run file cnf

-- statuses 0 and 6 come only where the file is a formula and the proof was judged so
pub record IsChecked (run : Run) : Type 0 where
  pub verified : run.status ≡ 0 → EndsBy run (Judged Verified)
  pub flawed : run.status ≡ 6 → (flaw : Flaw) × EndsBy run (Judged (Flawed flaw))

-- no call on the proof's slot or on the answer failed
pub record IsCalmCheck (run : Run) : Type 0 where
  pub proof : ¬ Rose (run.inputs_before.at Proof).faults (run.inputs_after.at Proof).faults
  pub answer : ¬ Rose (run.before.at Answer).faults (run.after.at Answer).faults

-- whether the proof checks decides the status of a told proof; want of memory may always come
abbrev pub AnswersProof : Cnf → Steps → Run → Type 0
AnswersProof cnf steps run = (run.status ≡ (if checks cnf steps.lines then 0 else 6)) ⊎ (run.status ≡ 5)

-- where the file is told and no call failed, its bytes and those of the proof alone decide
abbrev pub AnswersCheck : Result Cnf CnfFault → List ℕ → Run → Type 0
AnswersCheck (Ok cnf) proof run = IsCalmCheck run → OnToldProof run proof (λ steps. AnswersProof cnf steps run)
AnswersCheck (Err fault) proof run = RefusesFile fault run ⊎ (run.status ≡ 5)

-- the same of both files
abbrev pub IsCompleteCheck : Run → Type 0
IsCompleteCheck run =
    (file proof bytes : List ℕ) → run.job ≡ Some (Check file proof)
    → run.inputs_before.held Formula file ≡ Some bytes
    → ¬ Rose (run.inputs_before.at Formula).faults (run.inputs_after.at Formula).faults
    → AnswersCheck (formula_of bytes) proof run

-- == `gen` and `race` ==

-- the status is 0 where the text is written whole, else 4 or 5: 4 only where a call on the answer failed
pub record TextSentences (run : Run) : Type 0 where
  pub written : run.status ≡ 0 → EndsBy run Written
  pub printed : run.status ≡ 0 → OnText run.job (λ text. (run.after.at Answer).written ≡ append_known (run.before.at Answer).written text)
  pub statuses : (run.status ≡ 0) ⊎ ((run.status ≡ 4) ⊎ (run.status ≡ 5))
  pub complete : ¬ Rose (run.before.at Answer).faults (run.after.at Answer).faults → (run.status ≡ 0) ⊎ (run.status ≡ 5)

-- == all sentences ==

-- the sentences of `solve`
pub record SolveSentences (run : Run) : Type 0 where
  pub solved : IsSolved run
  pub model : IsModel run
  pub refuted : IsRefutation run
  pub unknown : IsUnknown run
  pub complete : IsComplete run

-- the sentences of `check`
pub record CheckSentences (run : Run) : Type 0 where
  pub checked : IsChecked run
  pub verified : run.status ≡ 0 → OnCheck run.job (λ file proof. SaysVerified run file proof)
  pub flawed : run.status ≡ 6 → OnCheck run.job (λ file proof. SaysFlaw run file proof)
  pub complete : IsCompleteCheck run

-- the sentences of a run, which follow from its record
pub record Sentences (run : Run) : Type 0 where
  pub words : Words run
  pub status : HasStatus run
  pub solve : IsSolve run.job → SolveSentences run
  pub check : IsCheck run.job → CheckSentences run
  pub text : WritesOwnText run.job → TextSentences run
  pub refused : IsRefusal run
  pub ports : KeepsPorts run
