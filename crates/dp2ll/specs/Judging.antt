-- Judging a proof's file: what was taken of it, what was found, and how that ended.
use Rattle.std.specs.Prelude.{◌≡◌, ◌⊎◌, ℕ, ◌≤◌, List, [], ◌∷◌, ◌++◌, length, take, false, Option, Some, None, Result, Ok, Err, IsOk}
use Rattle.std.specs.Io.KnownBytes.{prepend_known, IsAtEnd}
use Rattle.lit_base.specs.Cnf.{Cnf}
use Rattle.lit_base.specs.Judgement.{judge, adds_empty, add_empty, Checks}
use Rattle.lit_base.specs.declared.proof.Line.{Line}
use Rattle.lit_base.specs.declared.proof.ProofFault.{ProofFault}
use Rattle.desk_io.specs.Told.{InputsTold, SlotTold, Rose}
use Rattle.desk_io.specs.declared.Slot.TheVariants.{Proof}
use Rattle.lrat_text.specs.declared.fault.LineFault.{LineFault}
use Rattle.lrat_text.specs.declared.fault.LineFault.TheVariants as reader
use Rattle.lrat_text.specs.State.{ReaderState}
use Rattle.lrat_text.specs.Reading.{Steps, early_steps, proof_steps}
use Rattle.lrat_text.specs.Reader.{HasRead}
use Rattle.lrat_check.specs.declared.fault.CheckFault.{CheckFault}
use Rattle.lrat_check.specs.declared.checker.Checker.{Checker}
use Rattle.lrat_check.specs.Faults.{proof_fault}
use Rattle.lrat_check.specs.Checking.{HasJudged}
use Rattle.dp2ll.specs.declared.finding.Flaw.{Flaw}
use Rattle.dp2ll.specs.declared.finding.Flaw.TheVariants.{Misread, Misjudged, NoEmptyClause}
use Rattle.dp2ll.specs.declared.finding.Finding.{Finding}
use Rattle.dp2ll.specs.declared.finding.Finding.TheVariants.{Verified, Flawed}
use Rattle.dp2ll.specs.declared.ending.ProofStop.{ProofStop}
use Rattle.dp2ll.specs.declared.ending.ProofStop.TheVariants.{ReadFault, NoMemory}
use Rattle.dp2ll.specs.Reading.{KeepsSlot, TakesWhile, bytes_taken, TakesPiece, FailsToTake}

-- == what is found of a proof that reads as these steps ==

-- the lines before the reader's fault have none, and none of them adds the empty lemma
pub record IsMisread (cnf : Cnf) (steps : Steps) (misread : LineFault) : Type 0 where
  pub fault : steps.fault ≡ Some misread
  pub sound : IsOk (judge cnf steps.lines)
  pub unended : add_empty steps.lines ≡ false

-- the line behind these is at fault so
pub record FailsLine (cnf : Cnf) (lines : List Line) (fault : CheckFault) : Type 0 where
  pub proof : ProofFault
  pub is : proof_fault fault ≡ Some proof
  pub judged : judge cnf lines ≡ Err proof

-- a line has this fault, the first of all, and none before it adds the empty lemma
pub record IsMisjudged (cnf : Cnf) (steps : Steps) (fault : CheckFault) : Type 0 where
  pub earlier : List Line
  pub line : Line
  pub later : List Line
  pub split : steps.lines ≡ earlier ++ line ∷ later
  pub unended : add_empty earlier ≡ false
  pub fails : FailsLine cnf (earlier ++ line ∷ []) fault

-- nothing has a fault, and no line adds the empty lemma
pub record LacksEmpty (cnf : Cnf) (steps : Steps) : Type 0 where
  pub no_fault : steps.fault ≡ None
  pub sound : IsOk (judge cnf steps.lines)
  pub unended : add_empty steps.lines ≡ false

-- what each flaw says: it is the first fault in the order of lines, or that there is no empty lemma
abbrev pub IsFlaw : Cnf → Steps → Flaw → Type 0
IsFlaw cnf steps (Misread fault) = IsMisread cnf steps fault
IsFlaw cnf steps (Misjudged fault) = IsMisjudged cnf steps fault
IsFlaw cnf steps NoEmptyClause = LacksEmpty cnf steps

-- what each finding says: the proof checks, or it has this flaw
abbrev pub IsFinding : Cnf → Steps → Finding → Type 0
IsFinding cnf steps Verified = Checks cnf steps.lines
IsFinding cnf steps (Flawed flaw) = IsFlaw cnf steps flaw

-- this is found of bytes, whatever follows them
abbrev pub FindsEarly : Cnf → List ℕ → Finding → Type 0
FindsEarly cnf bytes finding = (rest : List ℕ) → IsFinding cnf (proof_steps (bytes ++ rest)) finding

-- == what was taken ==

-- these lines have ended in the bytes, without a fault of the reader or the judge, and none of them adds the empty lemma
pub record AreOpen (cnf : Cnf) (bytes : List ℕ) (lines : List Line) : Type 0 where
  pub steps : early_steps bytes ≡ record { lines = lines; fault = None }
  pub sound : IsOk (judge cnf lines)
  pub unended : add_empty lines ≡ false

-- bytes of a proof after which one more piece is read
abbrev pub GoesOnProof : Cnf → List ℕ → Type 0
GoesOnProof cnf bytes = (lines : List Line) × AreOpen cnf bytes lines

-- of the proof's bytes a front was taken, each line judged before the next was read, and this was found of what was taken: it
-- stays whatever follows, or the file has ended
pub record IsJudged (cnf : Cnf) (held left : Option (List ℕ)) (finding : Finding) : Type 0 where
  pub takes : TakesWhile (GoesOnProof cnf) held left
  pub found : FindsEarly cnf (bytes_taken takes) finding
      ⊎ (IsAtEnd left × IsFinding cnf (proof_steps (bytes_taken takes)) finding)

-- a call on the proof's slot failed, and after what was taken one more piece was to be read
pub record IsProofFault (cnf : Cnf) (held left : Option (List ℕ)) (faults_before faults_after : ℕ) : Type 0 where
  pub taken : List ℕ
  pub goes_on : GoesOnProof cnf taken
  pub rest : held ≡ prepend_known taken left
  pub rose : Rose faults_before faults_after

-- what each way to stop judging says of the bytes that were held, and of the slot
abbrev pub StopsJudging : Cnf → Option (List ℕ) → SlotTold → SlotTold → ProofStop → Type 0
StopsJudging cnf held before after ReadFault = IsProofFault cnf held after.left before.faults after.faults
StopsJudging cnf held before after NoMemory = TakesWhile (GoesOnProof cnf) held after.left

-- what each answer of judging a proof's file says
abbrev pub JudgesFile : Cnf → Option (List ℕ) → SlotTold → SlotTold → Result Finding ProofStop → Type 0
JudgesFile cnf held before after (Ok finding) = IsJudged cnf held after.left finding
JudgesFile cnf held before after (Err stop) = StopsJudging cnf held before after stop

-- == steps of it ==

-- reader and checker stand behind these bytes and lines, and go on
pub record IsJudging (cnf : Cnf) (reader : ReaderState) (checker : Checker) (bytes : List ℕ) (lines : List Line) : Type 0 where
  pub read : HasRead reader bytes lines
  pub judged : HasJudged cnf checker lines
  pub unended : add_empty lines ≡ false

-- the line has no fault and goes on
pub record PassesLine (cnf : Cnf) (checker : Checker) (lines : List Line) (line : Line) : Type 0 where
  pub judged : HasJudged cnf checker lines
  pub unended : adds_empty line.step ≡ false

-- what is found of a line, where `lines` are those so far with this one
abbrev pub FindsLine : Cnf → List Line → Finding → Type 0
FindsLine cnf lines Verified = Checks cnf lines
FindsLine cnf lines (Flawed (Misjudged fault)) = FailsLine cnf lines fault
FindsLine cnf lines (Flawed (Misread fault)) = ⊥
FindsLine cnf lines (Flawed NoEmptyClause) = ⊥

-- a call that stops for want of memory says nothing, and it stops for nothing else
abbrev pub StopsForMemory : ProofStop → Type 0
StopsForMemory ReadFault = ⊥
StopsForMemory NoMemory = Unit {0}

-- what judging a line gives
abbrev pub JudgesLine : Cnf → Checker → List Line → Line → Result (Option Finding) ProofStop → Type 0
JudgesLine cnf checker lines line (Ok None) = PassesLine cnf checker lines line
JudgesLine cnf checker lines line (Ok (Some finding)) = FindsLine cnf lines finding
JudgesLine cnf checker lines line (Err stop) = StopsForMemory stop

-- the reader's fault is one of the proof, and not want of memory
abbrev pub IsOfProof : LineFault → Type 0
IsOfProof fault = fault ≡ reader.NoMemory → ⊥

-- how judging goes on by a fault that the reader answered
abbrev pub FindsByFault : LineFault → Result Finding ProofStop → Type 0
FindsByFault fault (Ok (Flawed (Misread found))) = (found ≡ fault) × IsOfProof fault
FindsByFault fault (Ok (Flawed (Misjudged found))) = ⊥
FindsByFault fault (Ok (Flawed NoEmptyClause)) = ⊥
FindsByFault fault (Ok Verified) = ⊥
FindsByFault fault (Err stop) = StopsForMemory stop

-- what reading on behind these bytes up to the next line, and judging that, gives: so many bytes of the text were taken and
-- judging goes on, or a finding that stays
abbrev pub JudgesNext : Cnf → ReaderState → Checker → List ℕ → List ℕ → Result (ℕ × Option Finding) ProofStop → Type 0
JudgesNext cnf reader checker bytes text (Ok (taken, None)) = (lines : List Line) × IsJudging cnf reader checker (bytes ++ take taken text) lines
JudgesNext cnf reader checker bytes text (Ok (taken, Some finding)) = FindsEarly cnf (bytes ++ text) finding
JudgesNext cnf reader checker bytes text (Err stop) = StopsForMemory stop

-- what reading on behind these bytes with a text, and judging its lines, gives: nothing yet, or a finding that stays
abbrev pub JudgesText : Cnf → ReaderState → Checker → List ℕ → List ℕ → Result (Option Finding) ProofStop → Type 0
JudgesText cnf reader checker bytes text (Ok None) = (lines : List Line) × IsJudging cnf reader checker (bytes ++ text) lines
JudgesText cnf reader checker bytes text (Ok (Some finding)) = FindsEarly cnf (bytes ++ text) finding
JudgesText cnf reader checker bytes text (Err stop) = StopsForMemory stop

-- from where reader and checker stood at first they have gone on to these, and this is left of the text
pub record HasJudgedTo (first_reader : ReaderState) (first_checker : Checker) (reader : ReaderState) (checker : Checker) (text rest : List ℕ) : Type 0 where
  pub done : List ℕ
  pub parts : done ++ rest ≡ text
  pub judges : (cnf : Cnf) (bytes : List ℕ) (lines : List Line) → IsJudging cnf first_reader first_checker bytes lines
      → (later : List Line) × IsJudging cnf reader checker (bytes ++ done) later

-- what the end of the text behind these bytes gives
abbrev pub JudgesEnd : Cnf → List ℕ → Result Finding ProofStop → Type 0
JudgesEnd cnf bytes (Ok finding) = IsFinding cnf (proof_steps bytes) finding
JudgesEnd cnf bytes (Err stop) = StopsForMemory stop

-- a piece was taken, its lines were judged, and judging goes on behind it
pub record JudgesOn (cnf : Cnf) (before after : SlotTold) (reader : ReaderState) (checker : Checker) (taken : List ℕ) : Type 0 where
  pub takes : TakesPiece before after
  pub some : 1 ≤ length takes.bytes
  pub lines : List Line
  pub judging : IsJudging cnf reader checker (taken ++ takes.bytes) lines

-- a piece was taken, and this is found
pub record JudgesLast (cnf : Cnf) (before after : SlotTold) (taken : List ℕ) (finding : Finding) : Type 0 where
  pub takes : TakesPiece before after
  pub found : FindsEarly cnf (taken ++ takes.bytes) finding

-- nothing was left, and this is found of the whole
pub record JudgesWhole (cnf : Cnf) (before after : SlotTold) (taken : List ℕ) (finding : Finding) : Type 0 where
  pub left : after.left ≡ before.left
  pub at_end : IsAtEnd after.left
  pub found : IsFinding cnf (proof_steps taken) finding

-- what each way to stop at one read says
abbrev pub StopsAtRead : SlotTold → SlotTold → ProofStop → Type 0
StopsAtRead before after ReadFault = FailsToTake before after
StopsAtRead before after NoMemory = TakesPiece before after ⊎ (after.left ≡ before.left)

-- what one read of a piece and the judgement of its lines say, where these bytes were taken before it
abbrev pub JudgesPiece : Cnf → SlotTold → SlotTold → ReaderState → Checker → List ℕ → Result (Option Finding) ProofStop → Type 0
JudgesPiece cnf before after reader checker taken (Ok None) = JudgesOn cnf before after reader checker taken
JudgesPiece cnf before after reader checker taken (Ok (Some finding)) =
    JudgesLast cnf before after taken finding ⊎ JudgesWhole cnf before after taken finding
JudgesPiece cnf before after reader checker taken (Err stop) = StopsAtRead before after stop

-- where judging stands between two reads: there were at most as many turns as bytes
pub record IsBetween (cnf : Cnf) (start now : InputsTold) (reader : ReaderState) (checker : Checker) (turns : ℕ) : Type 0 where
  pub kept : KeepsSlot Proof start now
  pub taken : List ℕ
  pub lines : List Line
  pub judging : IsJudging cnf reader checker taken lines
  pub turns_taken : turns ≤ length taken
  pub rest : (start.at Proof).left ≡ prepend_known taken (now.at Proof).left

-- reader and checker of some formula's proof have taken nothing
pub record IsFresh (reader : ReaderState) (checker : Checker) : Type 0 where
  pub cnf : Cnf
  pub judging : IsJudging cnf reader checker [] []

-- judging has gone on from a fresh reader and checker, for each formula whose proof they judge
pub record HasGoneOn (start now : InputsTold) (first_reader : ReaderState) (first_checker : Checker) (reader : ReaderState) (checker : Checker) (turns : ℕ) : Type 0 where
  pub kept : KeepsSlot Proof start now
  pub between : (cnf : Cnf) → IsJudging cnf first_reader first_checker [] [] → IsBetween cnf start now reader checker turns

-- what judging all pieces of what is left says
abbrev pub JudgesPieces : Cnf → SlotTold → SlotTold → Result Finding ProofStop → Type 0
JudgesPieces cnf before after result = JudgesFile cnf before.left before after result
