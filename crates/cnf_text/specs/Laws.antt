-- What holds of the definitions of reading.
use Rattle.std.specs.Prelude.{◌≡◌, ℕ, ◌≤◌, ◌↔◌, true, false, not, List, [], ◌∷◌, ◌++◌, length, map, flat_map, Some, None, Ok, Err}
use Rattle.std.specs.List.{list_all}
use Rattle.lit_base.specs.Literal.{Literal}
use Rattle.lit_base.specs.Distinct.{distinct}
use Rattle.lit_base.specs.Cnf.{Cnf}
use Rattle.cnf_text.specs.declared.fault.CnfFault.{CnfFault}
use Rattle.lit_base.specs.Lines.{is_line_feed, mark_of, is_comment}
use Rattle.cnf_text.specs.State.{ReaderState}
use Rattle.cnf_text.specs.Reading.{formula_of, early_fault, is_ended, IsEnded}
use Rattle.cnf_text.specs.Reader.{HasRead}
use Rattle.cnf_text.specs.Spelling.{formula_text, CanBeWritten}

-- an early fault is the fault of the whole, whatever follows
abbrev pub EarlyFaultStays : Type 0
EarlyFaultStays = (front rest : List ℕ) (fault : CnfFault) → early_fault front ≡ Some fault → formula_of (front ++ rest) ≡ Err fault

-- what follows the line that ends the input changes nothing
abbrev pub EndEndsInput : Type 0
EndEndsInput = (front rest : List ℕ) → IsEnded front → formula_of (front ++ rest) ≡ formula_of front

-- what a reader has read has no fault so far
abbrev pub ReadBytesAreSound : Type 0
ReadBytesAreSound = (reader : ReaderState) (bytes : List ℕ) → HasRead reader bytes → early_fault bytes ≡ None

-- what a reader has read is within the limit of bytes, where no line ends the input
abbrev pub ReadBytesAreFew : Type 0
ReadBytesAreFew = (reader : ReaderState) (bytes : List ℕ) → HasRead reader bytes → is_ended bytes ≡ false → length bytes ≤ 268435456

-- what is written as a formula is read as that formula
abbrev pub WrittenIsRead : Type 0
WrittenIsRead = (variables : ℕ) (clauses : List (List Literal)) → CanBeWritten variables clauses
    → formula_of (formula_text variables clauses) ≡ Ok (record { variables = variables; clauses = map distinct clauses })

-- lines, each with its LF
abbrev pub lines_text : List (List ℕ) → List ℕ
lines_text lines = flat_map (λ line. line ++ 10 ∷ []) lines

-- one line whose first byte that is no blank is `c`
pub record IsComment (line : List ℕ) : Type 0 where
  pub one : list_all (λ b. not (is_line_feed b)) line ≡ true
  pub marked : is_comment (mark_of line) ≡ true

-- a comment behind whole lines, or before the first, changes no formula, where the text stays short enough
abbrev pub CommentsChangeNothing : Type 0
CommentsChangeNothing = (lines : List (List ℕ)) (comment rest : List ℕ) (cnf : Cnf) → IsComment comment
    → length (lines_text lines ++ (comment ++ 10 ∷ rest)) ≤ 268435456
    → (formula_of (lines_text lines ++ (comment ++ 10 ∷ rest)) ≡ Ok cnf) ↔ (formula_of (lines_text lines ++ rest) ≡ Ok cnf)
