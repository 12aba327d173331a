-- What each ending of a run says of the file that was read, of the log and of the answer.
use Rattle.std.specs.Prelude.{◌≡◌, ◌⊎◌, ℕ, Bool, List, Option, Some, None, Result, Ok, Err}
use Rattle.lit_base.specs.Cnf.{Cnf}
use Rattle.desk_io.specs.Told.{InputsTold, OutputsTold}
use Rattle.desk_io.specs.declared.Slot.TheVariants.{Formula, Proof}
use Rattle.lit_base.specs.Judgement.{HasNoModel}
use Rattle.job_words.specs.declared.job.Job.{Job}
use Rattle.job_words.specs.declared.job.Job.TheVariants.{Solve, Check, Gen, Race}
use Rattle.solo_core.specs.declared.sheet.Settings.{Settings}
use Rattle.crew.specs.declared.outcome.Verdict.{Verdict}
use Rattle.dp2ll.specs.declared.ending.ReadStop.{ReadStop}
use Rattle.dp2ll.specs.declared.finding.Finding.{Finding}
use Rattle.dp2ll.specs.declared.finding.Finding.TheVariants.{Verified}
use Rattle.dp2ll.specs.declared.ending.ProofStop.{ProofStop}
use Rattle.dp2ll.specs.declared.ending.WriteStop.{WriteStop}
use Rattle.dp2ll.specs.declared.ending.Ending.{Ending}
use Rattle.dp2ll.specs.declared.ending.Ending.TheVariants.{Answered, Judged, Written, Usage, Unread, Unjudged, Unwritten, NoMemory}
use Rattle.dp2ll.specs.Making.{gen_text, race_text}
use Rattle.dp2ll.specs.Ending.{finding_text}
use Rattle.dp2ll.specs.Reading.{BeginsSlot, BeginsFormula, IsRead, StopsReading}
use Rattle.dp2ll.specs.Judging.{IsJudged, StopsJudging}
use Rattle.dp2ll.specs.Answering.{Page, page_of, WritesBoth, CutsTexts, IsAnswered, StopsWriting}

-- what inputs and outputs tell at one moment, but for the complaint port
pub record Desk : Type 0 where
  pub inputs : InputsTold
  pub page : Page

-- the desk of these inputs and outputs
abbrev pub desk : InputsTold → OutputsTold → Desk
desk inputs outputs = record { inputs = inputs; page = page_of outputs }

-- the file was read as this formula
abbrev pub ReadsAs : List ℕ → Desk → Desk → Cnf → Type 0
ReadsAs file before after cnf = IsRead (before.inputs.held Formula file) (after.inputs.at Formula).left cnf

-- the file is a formula, whose run has this verdict, and the texts of the run are written
pub record IsSolved (file : List ℕ) (log : Option (List ℕ)) (settings : Settings) (trace : Bool) (before after : Desk) (verdict : Verdict) : Type 0 where
  pub cnf : Cnf
  pub read : ReadsAs file before after cnf
  pub answered : IsAnswered cnf settings trace log before.page after.page verdict

-- the file gave no formula, and nothing was written
pub record IsUnread (file : List ℕ) (before after : Desk) (stop : ReadStop) : Type 0 where
  pub stops : StopsReading (before.inputs.held Formula file) (before.inputs.at Formula) (after.inputs.at Formula) stop
  pub untouched : after.page ≡ before.page

-- the file is a formula, and the texts of its run were cut short
pub record IsUnwritten (file : List ℕ) (log : Option (List ℕ)) (settings : Settings) (trace : Bool) (before after : Desk) (stop : WriteStop) : Type 0 where
  pub cnf : Cnf
  pub read : ReadsAs file before after cnf
  pub stops : StopsWriting cnf settings trace log before.page after.page stop

-- the cause of each ending of `solve` with these words, once the file was begun
abbrev pub SolveCause : List ℕ → Option (List ℕ) → Settings → Bool → Desk → Desk → Ending → Type 0
SolveCause file log settings trace before after (Answered verdict) = IsSolved file log settings trace before after verdict
SolveCause file log settings trace before after (Judged finding) = ⊥
SolveCause file log settings trace before after Written = ⊥
SolveCause file log settings trace before after Usage = ⊥
SolveCause file log settings trace before after (Unread stop) = IsUnread file before after stop
SolveCause file log settings trace before after (Unjudged stop) = ⊥
SolveCause file log settings trace before after (Unwritten stop) = IsUnwritten file log settings trace before after stop
SolveCause file log settings trace before after NoMemory = ⊥

-- `solve` on this file, with this log where one is named: the file was begun, and then one of the endings came by its cause
pub record Solves (file : List ℕ) (log : Option (List ℕ)) (settings : Settings) (trace : Bool) (before after : Desk) (how : Ending) : Type 0 where
  pub begun : BeginsFormula file before.inputs after.inputs
  pub cause : SolveCause file log settings trace before after how

-- == `check` ==

-- the formula's file was read as this formula, and then the proof's slot was begun
pub record BeginsProof (file proof : List ℕ) (before : Desk) (between : InputsTold) (after : Desk) (cnf : Cnf) : Type 0 where
  pub read : IsRead (before.inputs.held Formula file) (between.at Formula).left cnf
  pub begun : BeginsSlot Proof proof between after.inputs

-- this was found of the proof's file
pub record FindsProof (file proof : List ℕ) (before : Desk) (between : InputsTold) (after : Desk) (finding : Finding) : Type 0 where
  pub cnf : Cnf
  pub begins : BeginsProof file proof before between after cnf
  pub found : IsJudged cnf (before.inputs.held Proof proof) (after.inputs.at Proof).left finding
  pub refuted : finding ≡ Verified → HasNoModel cnf

-- it was found and said, and nothing of logs changed
pub record IsChecked (file proof : List ℕ) (before : Desk) (between : InputsTold) (after : Desk) (finding : Finding) : Type 0 where
  pub finds : FindsProof file proof before between after finding
  pub says : WritesBoth None (finding_text finding) (finding_text finding) before.page after.page

-- the formula's file gave no formula, the proof was not begun, and nothing was written
pub record IsUnchecked (file : List ℕ) (before : Desk) (between : InputsTold) (after : Desk) (stop : ReadStop) : Type 0 where
  pub stops : StopsReading (before.inputs.held Formula file) (before.inputs.at Formula) (between.at Formula) stop
  pub no_more : after.inputs ≡ between
  pub untouched : after.page ≡ before.page

-- the proof was not judged, and nothing was written
pub record IsUnjudged (file proof : List ℕ) (before : Desk) (between : InputsTold) (after : Desk) (stop : ProofStop) : Type 0 where
  pub cnf : Cnf
  pub begins : BeginsProof file proof before between after cnf
  pub stops : StopsJudging cnf (before.inputs.held Proof proof) (between.at Proof) (after.inputs.at Proof) stop
  pub untouched : after.page ≡ before.page

-- what was found was not said whole
pub record IsUnsaid (file proof : List ℕ) (before : Desk) (between : InputsTold) (after : Desk) (stop : WriteStop) : Type 0 where
  pub finding : Finding
  pub finds : FindsProof file proof before between after finding
  pub cut : CutsTexts None (finding_text finding) (finding_text finding) before.page after.page stop

-- the cause of each ending of `check` with these words; the inputs told this between the two files
abbrev pub CheckCause : List ℕ → List ℕ → Desk → InputsTold → Desk → Ending → Type 0
CheckCause file proof before between after (Answered verdict) = ⊥
CheckCause file proof before between after (Judged finding) = IsChecked file proof before between after finding
CheckCause file proof before between after Written = ⊥
CheckCause file proof before between after Usage = ⊥
CheckCause file proof before between after (Unread stop) = IsUnchecked file before between after stop
CheckCause file proof before between after (Unjudged stop) = IsUnjudged file proof before between after stop
CheckCause file proof before between after (Unwritten stop) = IsUnsaid file proof before between after stop
CheckCause file proof before between after NoMemory = ⊥

-- `check` of this proof: the formula's file was begun and read, and then one of the endings came by its cause
pub record ChecksProof (file proof : List ℕ) (before after : Desk) (how : Ending) : Type 0 where
  pub between : InputsTold
  pub begun : BeginsFormula file before.inputs between
  pub cause : CheckCause file proof before between after how

-- == `gen` and `race` ==

-- the cause of each ending of a command that writes this text and reads nothing
abbrev pub TextCause : List ℕ → Desk → Desk → Ending → Type 0
TextCause text before after (Answered verdict) = ⊥
TextCause text before after (Judged finding) = ⊥
TextCause text before after Written = WritesBoth None text text before.page after.page
TextCause text before after Usage = ⊥
TextCause text before after (Unread stop) = ⊥
TextCause text before after (Unjudged stop) = ⊥
TextCause text before after (Unwritten stop) = CutsTexts None text text before.page after.page stop
TextCause text before after NoMemory = ⊥

-- a command that writes this text: nothing was begun, and one of the endings came by its cause
pub record WritesText (text : List ℕ) (before after : Desk) (how : Ending) : Type 0 where
  pub unread : after.inputs ≡ before.inputs
  pub cause : TextCause text before after how

-- == any words ==

-- how `check` ended, by its answer
abbrev pub checked_ending : Result Finding Ending → Ending
checked_ending (Ok finding) = Judged finding
checked_ending (Err how) = how

-- how `solve` ended, by its answer
abbrev pub ending_of : Result Verdict Ending → Ending
ending_of (Ok verdict) = Answered verdict
ending_of (Err how) = how

-- how a command that writes a text ended, by its answer
abbrev pub written_ending : Result (Unit {0}) WriteStop → Ending
written_ending (Ok done) = Written
written_ending (Err stop) = Unwritten stop

-- a run that begins nothing ends by a usage fault or by want of memory
abbrev pub RefuseCause : Ending → Type 0
RefuseCause (Answered verdict) = ⊥
RefuseCause Written = ⊥
RefuseCause Usage = Unit {0}
RefuseCause (Judged finding) = ⊥
RefuseCause (Unread stop) = ⊥
RefuseCause (Unjudged stop) = ⊥
RefuseCause (Unwritten stop) = ⊥
RefuseCause NoMemory = Unit {0}

-- nothing is begun and nothing written
pub record Refuses (before after : Desk) (how : Ending) : Type 0 where
  pub untouched : after ≡ before
  pub cause : RefuseCause how

-- want of memory before anything is begun
pub record GivesUp (before after : Desk) (how : Ending) : Type 0 where
  pub untouched : after ≡ before
  pub cause : how ≡ NoMemory

-- a command that begins its file ended like this by its cause; other words begin nothing
abbrev pub ServesJob : Option Job → Desk → Desk → Ending → Type 0
ServesJob None before after how = ⊥
ServesJob (Some (Solve file settings workers log trace)) before after how = Solves file log settings trace before after how
ServesJob (Some (Check file proof)) before after how = ChecksProof file proof before after how
ServesJob (Some (Gen kind n seed)) before after how = WritesText (gen_text kind n seed) before after how
ServesJob (Some (Race kind n settings)) before after how = WritesText (race_text kind n settings) before after how

-- a run by its job: words that are no command line are refused
abbrev pub Serves : Option Job → Desk → Desk → Ending → Type 0
Serves None before after how = Refuses before after how
Serves (Some job) before after how = ServesJob (Some job) before after how ⊎ GivesUp before after how
