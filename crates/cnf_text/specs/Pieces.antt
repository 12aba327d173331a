-- The lines of a text, and the tokens in them.
use Rattle.std.specs.Prelude.{ℕ, ◌+◌, ◌==◌, Bool, true, false, List, [], ◌∷◌, ◌++◌, Option, Some, None, if◌then◌else◌}
use Rattle.lit_base.specs.Parts.{Parts, parts_of}
use Rattle.lit_base.specs.Lines.{is_blank, mark_of, is_comment}

-- a line whose mark is `%` ends the input
abbrev pub is_end : Option ℕ → Bool
is_end None = false
is_end (Some b) = b == 37

-- what is judged, in order: tokens, each with its line and whether the byte after it is there, and ends of lines
pub data Piece : Type 0 where
  Token : ℕ → Bool → List ℕ → Piece
  LineEnd : ℕ → Piece

-- the tokens of a line between its blanks; some may be empty, and mean nothing. The last is whole where the line is
abbrev pub tokens : ℕ → Bool → List ℕ → List (List ℕ) → List Piece
tokens line whole token [] = Token line whole token ∷ []
tokens line whole token (next ∷ more) = Token line true token ∷ tokens line whole next more

-- the tokens of a line; a comment has none
abbrev pub line_tokens : ℕ → Bool → List ℕ → List Piece
line_tokens line whole bytes =
    if is_comment (mark_of bytes) then [] else tokens line whole (parts_of is_blank bytes).first (parts_of is_blank bytes).others

-- the pieces of lines, counted from this number, up to the line that ends the input. The last line has no LF behind it
abbrev pub pieces : ℕ → List ℕ → List (List ℕ) → List Piece
pieces line bytes [] = if is_end (mark_of bytes) then [] else line_tokens line false bytes
pieces line bytes (next ∷ more) =
    if is_end (mark_of bytes) then [] else line_tokens line true bytes ++ LineEnd line ∷ pieces (line + 1) next more

-- whether one of the lines ends the input
abbrev pub has_end : List ℕ → List (List ℕ) → Bool
has_end bytes [] = is_end (mark_of bytes)
has_end bytes (next ∷ more) = if is_end (mark_of bytes) then true else has_end next more

-- the number of the line that ends the input, or of the last line
abbrev pub last_line : ℕ → List ℕ → List (List ℕ) → ℕ
last_line line bytes [] = line
last_line line bytes (next ∷ more) = if is_end (mark_of bytes) then line else last_line (line + 1) next more

-- the pieces of a text
abbrev pub pieces_in : Parts → List Piece
pieces_in lines = pieces 1 lines.first lines.others
