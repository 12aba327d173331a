-- What a reader has read, and what it answers.
use Rattle.std.specs.Prelude.{◌≡◌, ℕ, ◌≤◌, false, List, length, Some, None, Result, Ok, Err}
use Rattle.lit_base.specs.Cnf.{Cnf}
use Rattle.cnf_text.specs.declared.fault.CnfFault.{CnfFault}
use Rattle.cnf_text.specs.Faults.{OnFault, Gives}
use Rattle.cnf_text.specs.State.{ReaderState}
use Rattle.cnf_text.specs.Machine.{start, steps, is_ended_at}
use Rattle.cnf_text.specs.Reading.{within, early_fault, formula_of}

-- the reader stands behind just these bytes, and has met no fault
pub record Holds (reader : ReaderState) (bytes : List ℕ) : Type 0 where
  pub scanned : steps start (within bytes) ≡ Ok reader.scan
  pub counted : reader.read ≡ length (within bytes)
  pub room : is_ended_at reader.scan.place ≡ false → length bytes ≤ 268435456
  pub sound : reader.fault ≡ None

-- the reader has read these bytes, without a fault
unfoldable pub HasRead : ReaderState → List ℕ → Type 0
HasRead reader bytes = Holds reader bytes

-- what `feed` leaves and answers, where `bytes` are those so far with the piece: it has read them, or keeps their fault
abbrev pub Feeds : {A : Type 0} → ReaderState → List ℕ → Result A CnfFault → Type 0
Feeds reader bytes (Ok done) = HasRead reader bytes × (early_fault bytes ≡ None)
Feeds reader bytes (Err fault) = (reader.fault ≡ Some fault) × OnFault fault (early_fault bytes ≡ Some fault)

-- what `end` answers of the whole text: its formula or its fault
abbrev pub Ends : List ℕ → Result Cnf CnfFault → Type 0
Ends bytes answer = Gives answer (formula_of bytes)
