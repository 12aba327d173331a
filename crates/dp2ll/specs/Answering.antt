-- Running the cores, and writing the log and the answer of the run.
use Rattle.std.specs.Prelude.{◌≡◌, ◌⊎◌, ℕ, Bool, List, Option, Result, Ok, Err}
use Rattle.std.specs.Io.KnownBytes.{append_known}
use Rattle.lit_base.specs.Cnf.{Cnf}
use Rattle.desk_io.specs.Told.{PortTold, OutputsTold, Rose}
use Rattle.desk_io.specs.Outputs.{GrowsByFront}
use Rattle.desk_io.specs.declared.Port.TheVariants.{Answer, Complaint}
use Rattle.solo_core.specs.declared.sheet.Settings.{Settings}
use Rattle.crew.specs.declared.outcome.Verdict.{Verdict}
use Rattle.crew.specs.Log.{log_text}
use Rattle.crew.specs.Outcome.{outcome_of}
use Rattle.dp2ll.specs.declared.ending.WriteStop.{WriteStop}
use Rattle.dp2ll.specs.declared.ending.WriteStop.TheVariants.{LogFault, AnswerFault, NoMemory}
use Rattle.dp2ll.specs.Outcome.{answer_of, IsBacked}
use Rattle.dp2ll.specs.Logging.{LogTold, log_told, LogsWhole, LogsFault, LogsPart}

-- what the outputs tell but for the complaint port
pub record Page : Type 0 where
  pub answer : PortTold
  pub log : LogTold

-- the same of all that outputs tell
abbrev pub page_of : OutputsTold → Page
page_of outputs = record { answer = outputs.at Answer; log = log_told outputs }

-- the complaint port was not touched
abbrev pub KeepsComplaint : OutputsTold → OutputsTold → Type 0
KeepsComplaint before after = after.at Complaint ≡ before.at Complaint

-- the log holds this text where one is named, and the answer port grew by that text
pub record WritesBoth (log : Option (List ℕ)) (log_bytes answer_bytes : List ℕ) (before after : Page) : Type 0 where
  pub logged : LogsWhole log log_bytes before.log after.log
  pub answered : after.answer.written ≡ append_known before.answer.written answer_bytes

-- a call on the log port failed, and the answer port was not touched
pub record IsUnlogged (log : Option (List ℕ)) (log_bytes : List ℕ) (before after : Page) : Type 0 where
  pub unanswered : after.answer ≡ before.answer
  pub failed : LogsFault log log_bytes before.log after.log

-- the log was cut short or is not there, and the answer port was not touched
pub record IsCutInLog (log : Option (List ℕ)) (log_bytes : List ℕ) (before after : Page) : Type 0 where
  pub unanswered : after.answer ≡ before.answer
  pub part : LogsPart log log_bytes before.log after.log

-- the log holds its whole text, and the answer port grew by a front of the answer
pub record IsCutInAnswer (log : Option (List ℕ)) (log_bytes answer_bytes : List ℕ) (before after : Page) : Type 0 where
  pub logged : LogsWhole log log_bytes before.log after.log
  pub front : GrowsByFront answer_bytes before.answer.written after.answer.written

-- a call on the answer port failed, behind a whole log
pub record IsUnanswered (log : Option (List ℕ)) (log_bytes answer_bytes : List ℕ) (before after : Page) : Type 0 where
  pub part : IsCutInAnswer log log_bytes answer_bytes before after
  pub rose : Rose before.answer.faults after.answer.faults

-- a front of the log stands and nothing of the answer, or the whole log and a front of the answer
abbrev pub WritesFronts : Option (List ℕ) → List ℕ → List ℕ → Page → Page → Type 0
WritesFronts log log_bytes answer_bytes before after =
    IsCutInLog log log_bytes before after ⊎ IsCutInAnswer log log_bytes answer_bytes before after

-- what each way to stop while two texts are written leaves
abbrev pub CutsTexts : Option (List ℕ) → List ℕ → List ℕ → Page → Page → WriteStop → Type 0
CutsTexts log log_bytes answer_bytes before after LogFault = IsUnlogged log log_bytes before after
CutsTexts log log_bytes answer_bytes before after AnswerFault = IsUnanswered log log_bytes answer_bytes before after
CutsTexts log log_bytes answer_bytes before after NoMemory = WritesFronts log log_bytes answer_bytes before after

-- what writing a log and an answer leaves, by how it ended
abbrev pub WritesTexts : Option (List ℕ) → List ℕ → List ℕ → Page → Page → Result (Unit {0}) WriteStop → Type 0
WritesTexts log log_bytes answer_bytes before after (Ok done) = WritesBoth log log_bytes answer_bytes before after
WritesTexts log log_bytes answer_bytes before after (Err stop) = CutsTexts log log_bytes answer_bytes before after stop

-- the run has this verdict, which is backed, and log and answer hold exactly its texts
pub record IsAnswered (cnf : Cnf) (settings : Settings) (trace : Bool) (log : Option (List ℕ)) (before after : Page) (verdict : Verdict) : Type 0 where
  pub outcome : (outcome_of cnf settings).verdict ≡ verdict
  pub backed : IsBacked cnf settings
  pub texts : WritesBoth log (log_text cnf settings) (answer_of cnf settings trace) before after

-- what each way to stop in a run, or while its texts are written, leaves of them
abbrev pub StopsWriting : Cnf → Settings → Bool → Option (List ℕ) → Page → Page → WriteStop → Type 0
StopsWriting cnf settings trace log before after stop =
    CutsTexts log (log_text cnf settings) (answer_of cnf settings trace) before after stop

-- what each answer of answering a formula says
abbrev pub Answers : Cnf → Settings → Bool → Option (List ℕ) → Page → Page → Result Verdict WriteStop → Type 0
Answers cnf settings trace log before after (Ok verdict) = IsAnswered cnf settings trace log before after verdict
Answers cnf settings trace log before after (Err stop) = StopsWriting cnf settings trace log before after stop

-- what writing an answer behind a whole log leaves of the answer port, by how it ended
abbrev pub AnswersPort : List ℕ → PortTold → PortTold → Result (Unit {0}) WriteStop → Type 0
AnswersPort text before after (Ok done) = after.written ≡ append_known before.written text
AnswersPort text before after (Err LogFault) = ⊥
AnswersPort text before after (Err AnswerFault) = GrowsByFront text before.written after.written × Rose before.faults after.faults
AnswersPort text before after (Err NoMemory) = GrowsByFront text before.written after.written
