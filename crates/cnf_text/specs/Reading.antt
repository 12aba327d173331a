-- What a text is read as.
use Rattle.std.specs.Prelude.{ℕ, nat_lt, Bool, not, ◌&&◌, List, [], ◌∷◌, ◌++◌, length, take, IsTrue, Option, Some, None, Result, Err, if◌then◌else◌}
use Rattle.lit_base.specs.Cnf.{Cnf}
use Rattle.cnf_text.specs.declared.fault.CnfFault.{CnfFault}
use Rattle.cnf_text.specs.declared.fault.CnfFault.TheVariants.{OverLimit}
use Rattle.cnf_text.specs.declared.fault.Which.TheVariants.{Bytes}
use Rattle.lit_base.specs.Parts.{parts_of}
use Rattle.lit_base.specs.Results.{on_ok, fault_of}
use Rattle.lit_base.specs.Lines.{is_line_feed}
use Rattle.cnf_text.specs.Pieces.{pieces_in, has_end, last_line}
use Rattle.cnf_text.specs.Progress.{ProgressState}
use Rattle.cnf_text.specs.Judge.{nothing, judge, finish}

-- the bytes that may be read: a text has at most 268,435,456
unfoldable pub within : List ℕ → List ℕ
within bytes = take 268435456 bytes

-- whether some line has `%` as its first byte that is no blank
unfoldable pub is_ended : List ℕ → Bool
is_ended bytes = has_end (parts_of is_line_feed bytes).first (parts_of is_line_feed bytes).others

-- the line that ends the input was met
abbrev pub IsEnded : List ℕ → Type 0
IsEnded bytes = IsTrue (is_ended bytes)

-- the line of the end: of `%`, or one more than there are LF bytes
unfoldable pub end_line_of : List ℕ → ℕ
end_line_of bytes = last_line 1 (parts_of is_line_feed bytes).first (parts_of is_line_feed bytes).others

-- what the pieces of the text say, or their first fault
unfoldable pub judged : List ℕ → Result ProgressState CnfFault
judged bytes = judge nothing (pieces_in (parts_of is_line_feed bytes))

-- the byte that is one too many, where no line before it ends the input
unfoldable pub byte_fault : List ℕ → Option CnfFault
byte_fault bytes =
    if nat_lt 268435456 (length bytes) && not (is_ended (within bytes)) then Some (OverLimit Bytes (end_line_of (within bytes)))
    else None

-- the first of two faults
abbrev pub first_fault : Option CnfFault → Option CnfFault → Option CnfFault
first_fault None second = second
first_fault (Some fault) second = Some fault

-- the fault that stands in the bytes so far, whatever follows
unfoldable pub early_fault : List ℕ → Option CnfFault
early_fault bytes = first_fault (fault_of (judged (within bytes))) (byte_fault bytes)

-- the value, where there is no fault
abbrev pub unless : {A : Type 0} → Option CnfFault → Result A CnfFault → Result A CnfFault
unless None result = result
unless (Some fault) result = Err fault

-- the formula of a whole text, or its first fault: an early one, or one of the text with an LF behind it, or one of the end
unfoldable pub formula_of : List ℕ → Result Cnf CnfFault
formula_of bytes =
    unless (early_fault bytes) (on_ok (judged (within bytes ++ 10 ∷ [])) (λ p. finish p (end_line_of (within bytes))))
