-- Faults, their lines and names, and what an answer owes for each.
use Rattle.std.specs.Prelude.{◌≡◌, ℕ, List, codes, Result, Ok, Err}
use Rattle.lrat_text.specs.declared.fault.LineFault.{LineFault}
use Rattle.lrat_text.specs.declared.fault.LineFault.TheVariants.{BadToken, Unclosed, RatHint, LineTooLong, ProofTooLong, NoMemory}

-- the line of a fault, counted from 1
abbrev pub line_of : LineFault → ℕ
line_of (BadToken line) = line
line_of (Unclosed line) = line
line_of (RatHint line) = line
line_of (LineTooLong line) = line
line_of (ProofTooLong line) = line
line_of NoMemory = 0

-- the name of a fault
abbrev pub name_of : LineFault → List ℕ
name_of (BadToken line) = codes "BadToken"
name_of (Unclosed line) = codes "Unclosed"
name_of (RatHint line) = codes "RatHint"
name_of (LineTooLong line) = codes "LineTooLong"
name_of (ProofTooLong line) = codes "ProofTooLong"
name_of NoMemory = codes "NoMemory"

-- a fact that an answer owes for this fault: none for want of memory
abbrev pub OnFault : LineFault → Type 0 → Type 0
OnFault (BadToken line) P = P
OnFault (Unclosed line) P = P
OnFault (RatHint line) P = P
OnFault (LineTooLong line) P = P
OnFault (ProofTooLong line) P = P
OnFault NoMemory P = Unit {0}

-- the call leaves the state that was wanted, or answers the fault that was wanted
abbrev pub Judges : {A S : Type 0} → Result A LineFault → S → Result S LineFault → Type 0
Judges (Ok done) after wanted = wanted ≡ Ok after
Judges (Err fault) after wanted = OnFault fault (wanted ≡ Err fault)
