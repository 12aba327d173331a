-- The bytes of a text that is cut into lines and tokens.
use Rattle.std.specs.Prelude.{ℕ, ◌==◌, Bool, false, ◌||◌, List, [], ◌∷◌, Option, Some, None, if◌then◌else◌}

-- LF ends a line
abbrev pub is_line_feed : ℕ → Bool
is_line_feed b = b == 10

-- blanks are space, LF, tab and CR
abbrev pub is_blank : ℕ → Bool
is_blank b = (b == 32) || ((b == 10) || ((b == 9) || (b == 13)))

-- the first byte of a line that is no blank
abbrev pub mark_of : List ℕ → Option ℕ
mark_of [] = None
mark_of (b ∷ bs) = if is_blank b then mark_of bs else Some b

-- a line whose mark is `c` is a comment
abbrev pub is_comment : Option ℕ → Bool
is_comment None = false
is_comment (Some b) = b == 99
