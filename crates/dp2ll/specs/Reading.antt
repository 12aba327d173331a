-- Reading the formula's file: what was taken of it, and how that ended.
use Rattle.std.specs.Prelude.{◌≡◌, ◌⊎◌, ℕ, ◌≤◌, List, ◌++◌, length, Bool, true, false, Option, Some, None, Result, Ok, Err}
use Rattle.std.specs.Io.KnownBytes.{prepend_known, IsAtEnd}
use Rattle.lit_base.specs.Cnf.{Cnf}
use Rattle.desk_io.specs.Told.{InputsTold, SlotTold, raised, Rose, KeepsOtherSlots}
use Rattle.desk_io.specs.declared.Slot.{Slot}
use Rattle.desk_io.specs.declared.Slot.TheVariants.{Formula}
use Rattle.cnf_text.specs.declared.fault.CnfFault.{CnfFault}
use Rattle.cnf_text.specs.declared.fault.CnfFault.TheVariants as cnf
use Rattle.cnf_text.specs.State.{ReaderState}
use Rattle.cnf_text.specs.Reading.{formula_of, early_fault, is_ended, IsEnded}
use Rattle.cnf_text.specs.Reader.{HasRead}
use Rattle.dp2ll.specs.declared.ending.ReadStop.{ReadStop}
use Rattle.dp2ll.specs.declared.ending.ReadStop.TheVariants.{NoFormula, ReadFault, NoMemory}

-- what reading leaves of the inputs, however it ended: the slot was begun once with this name, and nothing else changed
pub record BeginsSlot (slot : Slot) (name : List ℕ) (before after : InputsTold) : Type 0 where
  pub held : after.held ≡ before.held
  pub begun : (after.at slot).begun ≡ before.held slot name
  pub begins : (after.at slot).begins ≡ raised (before.at slot).begins
  pub later : (before.at slot).faults ≤ (after.at slot).faults
  pub others : KeepsOtherSlots slot before.at after.at

-- the same of the formula's file
abbrev pub BeginsFormula : List ℕ → InputsTold → InputsTold → Type 0
BeginsFormula file before after = BeginsSlot Formula file before after

-- bytes after which one more piece is read: no fault stands in them, and no line that ends the input
pub record GoesOn (bytes : List ℕ) : Type 0 where
  pub no_fault : early_fault bytes ≡ None
  pub not_ended : is_ended bytes ≡ false

-- a piece is what one read may give
abbrev pub IsPiece : List ℕ → Type 0
IsPiece bytes = length bytes ≤ 65536

-- of the bytes that were held a front was taken after which reading goes on, each piece judged before the next was read, then
-- one piece more, and the others are left
pub record TakesWhile (goes : List ℕ → Type 0) (held left : Option (List ℕ)) : Type 0 where
  pub judged : List ℕ
  pub last : List ℕ
  pub goes_on : goes judged
  pub piece : IsPiece last
  pub rest : held ≡ prepend_known (judged ++ last) left

-- all bytes that were taken
abbrev pub bytes_taken : {goes : List ℕ → Type 0} {held left : Option (List ℕ)} → TakesWhile goes held left → List ℕ
bytes_taken takes = takes.judged ++ takes.last

-- the same of a formula's file
abbrev pub Takes : Option (List ℕ) → Option (List ℕ) → Type 0
Takes held left = TakesWhile GoesOn held left

-- reading stopped where it should: nothing is left, or the line that ends the input was met
abbrev pub IsWhole : List ℕ → Option (List ℕ) → Type 0
IsWhole bytes left = IsAtEnd left ⊎ IsEnded bytes

-- the whole file was taken, or all of it up to the piece with the line that ends the input, and it is this formula
pub record IsRead (held left : Option (List ℕ)) (cnf : Cnf) : Type 0 where
  pub takes : Takes held left
  pub whole : IsWhole (bytes_taken takes) left
  pub formula : formula_of (bytes_taken takes) ≡ Ok cnf

-- the fault is one of the file, and not want of memory
abbrev pub IsOfFile : CnfFault → Type 0
IsOfFile fault = fault ≡ cnf.NoMemory → ⊥

-- what was taken has this fault already, or it is the whole file, and this is its fault
pub record IsNoFormula (held left : Option (List ℕ)) (fault : CnfFault) : Type 0 where
  pub takes : Takes held left
  pub of_file : IsOfFile fault
  pub found : (early_fault (bytes_taken takes) ≡ Some fault)
      ⊎ (IsWhole (bytes_taken takes) left × (formula_of (bytes_taken takes) ≡ Err fault))

-- a call on the formula's slot failed, and after what was taken one more piece was to be read
pub record IsReadFault (held left : Option (List ℕ)) (faults_before faults_after : ℕ) : Type 0 where
  pub taken : List ℕ
  pub goes_on : GoesOn taken
  pub rest : held ≡ prepend_known taken left
  pub rose : Rose faults_before faults_after

-- what each way to stop reading says of the bytes that were held, and of the slot
abbrev pub StopsReading : Option (List ℕ) → SlotTold → SlotTold → ReadStop → Type 0
StopsReading held before after (NoFormula fault) = IsNoFormula held after.left fault
StopsReading held before after ReadFault = IsReadFault held after.left before.faults after.faults
StopsReading held before after NoMemory = Takes held after.left

-- what each answer of reading a file says
abbrev pub Finds : Option (List ℕ) → SlotTold → SlotTold → Result Cnf ReadStop → Type 0
Finds held before after (Ok cnf) = IsRead held after.left cnf
Finds held before after (Err stop) = StopsReading held before after stop

-- how reading stops by a fault that the reader answered
abbrev pub StopsBy : CnfFault → ReadStop → Type 0
StopsBy fault (NoFormula found) = (found ≡ fault) × IsOfFile fault
StopsBy fault ReadFault = ⊥
StopsBy fault NoMemory = fault ≡ cnf.NoMemory

-- what one read of a slot, or several, leave of the inputs, however they ended
pub record KeepsSlot (slot : Slot) (before after : InputsTold) : Type 0 where
  pub held : after.held ≡ before.held
  pub begun : (after.at slot).begun ≡ (before.at slot).begun
  pub begins : (after.at slot).begins ≡ (before.at slot).begins
  pub later : (before.at slot).faults ≤ (after.at slot).faults
  pub others : KeepsOtherSlots slot before.at after.at

-- the same of the formula's slot
abbrev pub KeepsBegun : InputsTold → InputsTold → Type 0
KeepsBegun before after = KeepsSlot Formula before after

-- a piece was taken of what was left
pub record TakesPiece (before after : SlotTold) : Type 0 where
  pub bytes : List ℕ
  pub piece : IsPiece bytes
  pub left : before.left ≡ prepend_known bytes after.left

-- a piece was taken, the reader has read it, and one more is to be read
pub record ReadsOn (before after : SlotTold) (reader : ReaderState) (taken : List ℕ) : Type 0 where
  pub takes : TakesPiece before after
  pub some : 1 ≤ length takes.bytes
  pub read : HasRead reader (taken ++ takes.bytes)
  pub goes_on : GoesOn (taken ++ takes.bytes)

-- a piece was taken, and the reader has met the line that ends the input
pub record ReadsLast (before after : SlotTold) (reader : ReaderState) (taken : List ℕ) : Type 0 where
  pub takes : TakesPiece before after
  pub read : HasRead reader (taken ++ takes.bytes)
  pub ended : IsEnded (taken ++ takes.bytes)

-- nothing was left, and the reader stands as it was
pub record ReadsNothing (before after : SlotTold) (reader : ReaderState) (taken : List ℕ) : Type 0 where
  pub left : after.left ≡ before.left
  pub at_end : IsAtEnd after.left
  pub read : HasRead reader taken

-- a piece was taken, and what was taken with it has a fault
pub record MeetsFault (before after : SlotTold) (taken : List ℕ) (fault : CnfFault) : Type 0 where
  pub takes : TakesPiece before after
  pub of_file : IsOfFile fault
  pub found : early_fault (taken ++ takes.bytes) ≡ Some fault

-- the read failed, and took nothing
pub record FailsToTake (before after : SlotTold) : Type 0 where
  pub left : after.left ≡ before.left
  pub rose : Rose before.faults after.faults

-- what each way to stop at one read says, where these bytes were taken before it
abbrev pub StopsAtPiece : SlotTold → SlotTold → List ℕ → ReadStop → Type 0
StopsAtPiece before after taken (NoFormula fault) = MeetsFault before after taken fault
StopsAtPiece before after taken ReadFault = FailsToTake before after
StopsAtPiece before after taken NoMemory = TakesPiece before after

-- what one read of a piece says, where these bytes were taken before it: `true` stops the reading
abbrev pub ReadsPiece : SlotTold → SlotTold → ReaderState → List ℕ → Result Bool ReadStop → Type 0
ReadsPiece before after reader taken (Ok true) = ReadsNothing before after reader taken ⊎ ReadsLast before after reader taken
ReadsPiece before after reader taken (Ok false) = ReadsOn before after reader taken
ReadsPiece before after reader taken (Err stop) = StopsAtPiece before after taken stop

-- where reading stands between two reads: what was taken has been read, one more is to be read, and there were at most as many turns as bytes
pub record IsReading (start now : InputsTold) (reader : ReaderState) (turns : ℕ) : Type 0 where
  pub kept : KeepsBegun start now
  pub taken : List ℕ
  pub read : HasRead reader taken
  pub goes_on : GoesOn taken
  pub turns_taken : turns ≤ length taken
  pub rest : (start.at Formula).left ≡ prepend_known taken (now.at Formula).left

-- what was left was taken, all of it or up to the piece with the line that ends the input, and the reader has read it
pub record ReadsAll (held left : Option (List ℕ)) (reader : ReaderState) : Type 0 where
  pub takes : Takes held left
  pub read : HasRead reader (bytes_taken takes)
  pub whole : IsWhole (bytes_taken takes) left

-- what reading all pieces of what is left says
abbrev pub ReadsPieces : SlotTold → SlotTold → ReaderState → Result (Unit {0}) ReadStop → Type 0
ReadsPieces before after reader (Ok done) = ReadsAll before.left after.left reader
ReadsPieces before after reader (Err stop) = StopsReading before.left before after stop
