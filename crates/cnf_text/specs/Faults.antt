-- Faults, their lines and names, and what an answer owes for each.
use Rattle.std.specs.Prelude.{◌≡◌, ℕ, List, codes, Result, Ok, Err}
use Rattle.cnf_text.specs.declared.fault.CnfFault.{CnfFault}
use Rattle.cnf_text.specs.declared.fault.CnfFault.TheVariants.{NoHeader, BadHeader, BadNumber, VariableAbove, TooManyClauses, TooFewClauses, Unclosed, OverLimit, TooLong, NoMemory}
use Rattle.cnf_text.specs.declared.fault.Which.{Which}
use Rattle.cnf_text.specs.declared.fault.Which.TheVariants.{Variables, Clauses, Literals, Bytes}

-- the line of a fault, counted from 1
abbrev pub line_of : CnfFault → ℕ
line_of (NoHeader line) = line
line_of (BadHeader line) = line
line_of (BadNumber line) = line
line_of (VariableAbove line) = line
line_of (TooManyClauses line) = line
line_of (TooFewClauses line) = line
line_of (Unclosed line) = line
line_of (OverLimit which line) = line
line_of (TooLong line) = line
line_of NoMemory = 0

-- the name of a limit
abbrev pub limit_name : Which → List ℕ
limit_name Variables = codes "OverLimit Variables"
limit_name Clauses = codes "OverLimit Clauses"
limit_name Literals = codes "OverLimit Literals"
limit_name Bytes = codes "OverLimit Bytes"

-- the name of a fault, for a limit with the name of that
abbrev pub name_of : CnfFault → List ℕ
name_of (NoHeader line) = codes "NoHeader"
name_of (BadHeader line) = codes "BadHeader"
name_of (BadNumber line) = codes "BadNumber"
name_of (VariableAbove line) = codes "VariableAbove"
name_of (TooManyClauses line) = codes "TooManyClauses"
name_of (TooFewClauses line) = codes "TooFewClauses"
name_of (Unclosed line) = codes "Unclosed"
name_of (OverLimit which line) = limit_name which
name_of (TooLong line) = codes "TooLong"
name_of NoMemory = codes "NoMemory"

-- a fact that an answer owes for this fault: none for want of memory
abbrev pub OnFault : CnfFault → Type 0 → Type 0
OnFault (NoHeader line) P = P
OnFault (BadHeader line) P = P
OnFault (BadNumber line) P = P
OnFault (VariableAbove line) P = P
OnFault (TooManyClauses line) P = P
OnFault (TooFewClauses line) P = P
OnFault (Unclosed line) P = P
OnFault (OverLimit which line) P = P
OnFault (TooLong line) P = P
OnFault NoMemory P = Unit {0}

-- the call leaves the state that was wanted, or answers the fault that was wanted
abbrev pub Judges : {A S : Type 0} → Result A CnfFault → S → Result S CnfFault → Type 0
Judges (Ok done) after wanted = wanted ≡ Ok after
Judges (Err fault) after wanted = OnFault fault (wanted ≡ Err fault)

-- the answer is the value that was wanted, or the fault
abbrev pub Gives : {A : Type 0} → Result A CnfFault → Result A CnfFault → Type 0
Gives (Ok value) wanted = wanted ≡ Ok value
Gives (Err fault) wanted = OnFault fault (wanted ≡ Err fault)
