-- What the bytes of a proof are read as.
use Rattle.std.specs.Prelude.{ℕ, ◌+◌, nat_lt, Bool, true, false, List, [], ◌∷◌, length, take, Option, Some, None, Result, Ok, Err, if◌then◌else◌}
use Rattle.lit_base.specs.Lines.{is_line_feed}
use Rattle.lit_base.specs.Parts.{Parts, parts_of}
use Rattle.lit_base.specs.declared.proof.Line.{Line}
use Rattle.lrat_text.specs.declared.fault.LineFault.{LineFault}
use Rattle.lrat_text.specs.declared.fault.LineFault.TheVariants.{ProofTooLong}
use Rattle.lrat_text.specs.Judge.{line_step}

-- the lines with a step up to the first fault, and that fault, where there is one
pub record Steps : Type 0 where
  pub lines : List Line
  pub fault : Option LineFault

-- no line and no fault
abbrev pub no_steps : Steps
no_steps = record { lines = []; fault = None }

-- what a line says, and then what the later ones say; behind a fault nothing counts
abbrev pub with_line : Result (Option Line) LineFault → Steps → Steps
with_line (Err fault) later = record { lines = []; fault = Some fault }
with_line (Ok None) later = later
with_line (Ok (Some line)) later = record { lines = line ∷ later.lines; fault = later.fault }

-- what lines say, counted from this number; the last has no LF behind it, and is whole where the text ends there
abbrev pub steps_from : Bool → ℕ → List ℕ → List (List ℕ) → Steps
steps_from ended line bytes [] = with_line (line_step line ended bytes) no_steps
steps_from ended line bytes (next ∷ more) = with_line (line_step line true bytes) (steps_from ended (line + 1) next more)

-- what the lines of a text say
abbrev pub steps_in : Bool → Parts → Steps
steps_in ended lines = steps_from ended 1 lines.first lines.others

-- the bytes that may be read: a proof has at most 2^40
unfoldable pub within : List ℕ → List ℕ
within bytes = take 1099511627776 bytes

-- the line in which a text ends: one more than it has others behind its first
unfoldable pub end_line_of : List ℕ → ℕ
end_line_of bytes = 1 + length (parts_of is_line_feed bytes).others

-- where no other fault stands, this one does
abbrev pub with_last_fault : Option LineFault → LineFault → Option LineFault
with_last_fault None last = Some last
with_last_fault (Some fault) last = Some fault

-- with the fault of the byte behind these, which is one too many
abbrev pub with_long_fault : List ℕ → Steps → Steps
with_long_fault bytes steps = record { lines = steps.lines; fault = with_last_fault steps.fault (ProofTooLong (end_line_of bytes)) }

-- what a text says, which goes on behind these bytes or ends there
unfoldable pub steps_of : Bool → List ℕ → Steps
steps_of ended bytes =
    if nat_lt 1099511627776 (length bytes) then with_long_fault (within bytes) (steps_in false (parts_of is_line_feed (within bytes)))
    else steps_in ended (parts_of is_line_feed bytes)

-- what a whole proof says: its lines with their steps, up to the first fault, and that fault
unfoldable pub proof_steps : List ℕ → Steps
proof_steps bytes = steps_of true bytes

-- what stands in the bytes so far, whatever follows: the lines that have ended, and the fault of a byte or of a whole token
unfoldable pub early_steps : List ℕ → Steps
early_steps bytes = steps_of false bytes

-- the fault that stands in the bytes so far, whatever follows
unfoldable pub early_proof_fault : List ℕ → Option LineFault
early_proof_fault bytes = (early_steps bytes).fault
