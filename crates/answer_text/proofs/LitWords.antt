-- The words of a clause's literals.
use Rattle.std.specs.Prelude.{ℕ, List, ◌++◌, codes}
use Rattle.lit_base.specs.Literal.{Literal, literal_text}

-- a literal and a blank
abbrev pub lit_word : Literal → List ℕ
lit_word l = literal_text l ++ codes " "
