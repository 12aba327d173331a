-- What a reader has read, and what it answers.
use Rattle.std.specs.Prelude.{◌≡◌, ℕ, ◌≤◌, false, List, [], ◌∷◌, ◌++◌, length, take, Option, Some, None, Result, Ok, Err}
use Rattle.lit_base.specs.declared.proof.Line.{Line}
use Rattle.lrat_text.specs.declared.fault.LineFault.{LineFault}
use Rattle.lrat_text.specs.Faults.{OnFault}
use Rattle.lrat_text.specs.State.{ReaderState}
use Rattle.lrat_text.specs.Machine.{start, read, is_ready}
use Rattle.lrat_text.specs.Reading.{early_steps, proof_steps}

-- the reader stands behind just these bytes, has handed out these lines, and has met no fault
pub record Holds (reader : ReaderState) (bytes : List ℕ) (lines : List Line) : Type 0 where
  pub scanned : read start bytes ≡ record { lines = lines; last = Ok reader.scan }
  pub idle : is_ready reader.scan.place ≡ false
  pub counted : reader.read ≡ length bytes
  pub few : length bytes ≤ 1099511627776
  pub sound : reader.fault ≡ None

-- the reader has read these bytes and has handed out these lines, without a fault
unfoldable pub HasRead : ReaderState → List ℕ → List Line → Type 0
HasRead reader bytes lines = Holds reader bytes lines

-- so many bytes of the piece were taken, up to the end of the first line with a step, which is handed out; or all, without one
abbrev pub Takes : ReaderState → List ℕ → List Line → List ℕ → ℕ → Option Line → Type 0
Takes reader bytes lines piece count None = (count ≡ length piece) × HasRead reader (bytes ++ piece) lines
Takes reader bytes lines piece count (Some line) = HasRead reader (bytes ++ take count piece) (lines ++ line ∷ [])

-- what `feed` leaves and answers behind these bytes and lines: what it took of the piece, or the first fault of the bytes so far,
-- in front of which no line more has ended
abbrev pub Feeds : ReaderState → List ℕ → List Line → List ℕ → Result (ℕ × Option Line) LineFault → Type 0
Feeds reader bytes lines piece (Ok taken) = Takes reader bytes lines piece taken.0 taken.1
Feeds reader bytes lines piece (Err fault) =
    (reader.fault ≡ Some fault) × OnFault fault (early_steps (bytes ++ piece) ≡ record { lines = lines; fault = Some fault })

-- what `end` answers where the text ends behind these bytes: the last line, where it has a step, or the fault
abbrev pub Ends : ReaderState → List ℕ → List Line → Result (Option Line) LineFault → Type 0
Ends reader bytes lines (Ok None) = proof_steps bytes ≡ record { lines = lines; fault = None }
Ends reader bytes lines (Ok (Some line)) = proof_steps bytes ≡ record { lines = lines ++ line ∷ []; fault = None }
Ends reader bytes lines (Err fault) =
    (reader.fault ≡ Some fault) × OnFault fault (proof_steps bytes ≡ record { lines = lines; fault = Some fault })
