-- What holds of the definitions of reading a proof.
use Rattle.std.specs.Prelude.{◌≡◌, ℕ, ◌≤◌, List, ◌++◌, length, All, Some, None}
use Rattle.lit_base.specs.declared.proof.Line.{Line}
use Rattle.lrat_text.specs.declared.fault.LineFault.{LineFault}
use Rattle.lrat_text.specs.State.{ReaderState}
use Rattle.lrat_text.specs.Reading.{proof_steps, early_steps, early_proof_fault}
use Rattle.lrat_text.specs.Reader.{HasRead}
use Rattle.lrat_text.specs.Written.{NumberedLemma, CanBeWritten, log_of, additions_from}

-- an early fault is the fault of the whole, whatever follows, and no line more ends in front of it
abbrev pub EarlyFaultStays : Type 0
EarlyFaultStays = (front rest : List ℕ) (fault : LineFault) → early_proof_fault front ≡ Some fault
    → proof_steps (front ++ rest) ≡ record { lines = (early_steps front).lines; fault = Some fault }

-- where there is no early fault, the lines that have ended are lines of the whole, whatever follows
abbrev pub EndedLinesStay : Type 0
EndedLinesStay = (front rest : List ℕ) → early_proof_fault front ≡ None
    → (later : List Line) × ((proof_steps (front ++ rest)).lines ≡ (early_steps front).lines ++ later)

-- what a reader has read has no fault so far, and the lines that it has handed out are those that have ended
abbrev pub ReadBytesAreSound : Type 0
ReadBytesAreSound = (reader : ReaderState) (bytes : List ℕ) (lines : List Line) → HasRead reader bytes lines
    → early_steps bytes ≡ record { lines = lines; fault = None }

-- what a reader has read is within the limit of bytes
abbrev pub ReadBytesAreFew : Type 0
ReadBytesAreFew = (reader : ReaderState) (bytes : List ℕ) (lines : List Line) → HasRead reader bytes lines → length bytes ≤ 1099511627776

-- what is written as a log is read as its lemmas, where it is within the limit of bytes
abbrev pub WrittenIsRead : Type 0
WrittenIsRead = (lemmas : List NumberedLemma) → All CanBeWritten lemmas → length (log_of lemmas) ≤ 1099511627776
    → proof_steps (log_of lemmas) ≡ record { lines = additions_from 1 lemmas; fault = None }
