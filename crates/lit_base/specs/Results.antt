-- Steps that may fail, one after the other.
use Rattle.std.specs.Prelude.{Result, Ok, Err, Option, Some, None}

-- the first fault of two steps, or what the second makes of the first
abbrev pub on_ok : {A B F : Type 0} → Result A F → (A → Result B F) → Result B F
on_ok (Ok value) next = next value
on_ok (Err fault) next = Err fault

-- the fault of a result
abbrev pub fault_of : {A F : Type 0} → Result A F → Option F
fault_of (Ok value) = None
fault_of (Err fault) = Some fault
