-- Numbers at the front of a text that are short enough for a token.
use Rattle.std.specs.Prelude.{ℕ, ◌≤◌, ◌<◌, List}
use Rattle.lit_base.specs.declared.numeral.Numeral.{Numeral}
use Rattle.lit_base.specs.Numeral.{IsAtFront}

-- the text is this number, with a blank and a rest behind it; it has at most 64 bytes, and its value is below a hundred million
pub record IsShortAtFront (numeral : Numeral) (bytes : List ℕ) : Type 0 where
  pub front : IsAtFront numeral bytes
  pub short : numeral.len ≤ 64
  pub small : numeral.value < 100000000
