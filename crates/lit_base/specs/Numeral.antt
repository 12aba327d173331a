-- Numbers at the front of a text.
use Rattle.std.specs.Prelude.{◌≡◌, ℕ, ◌+◌, ◌-◌, ◌*◌, ◌≤◌, Bool, true, false, List, [], ◌∷◌, ◌++◌, length, take, zero, suc}
use Rattle.std.specs.List.{list_all}
use Rattle.std.specs.Char.{is_ascii_digit}
use Rattle.lit_base.specs.declared.numeral.Digits.{Digits}
use Rattle.lit_base.specs.declared.numeral.Numeral.{Numeral}
use Rattle.lit_base.specs.Lines.{is_blank}

-- the value of digits that follow those of n
abbrev pub value_from : ℕ → List ℕ → ℕ
value_from n [] = n
value_from n (d ∷ ds) = value_from (n * 10 + (d - 48)) ds

-- the text begins with these digits
pub record IsLeading (digits : Digits) (bytes : List ℕ) : Type 0 where
  pub within : digits.count ≤ length bytes
  pub all : list_all is_ascii_digit (take digits.count bytes) ≡ true
  pub value : digits.value ≡ value_from 0 (take digits.count bytes)

-- how many bytes of a sign the text begins with: 1 for a `-`
abbrev pub IsSign : List ℕ → ℕ → Type 0
IsSign bytes zero = Unit {0}
IsSign bytes (suc n) = (n ≡ 0) × ((others : List ℕ) × (bytes ≡ 45 ∷ others))

-- the bytes of a sign
abbrev pub sign_bytes : Bool → List ℕ
sign_bytes true = []
sign_bytes false = 45 ∷ []

-- the text is this number, with this blank and a rest behind it
pub record IsAtFront (numeral : Numeral) (bytes : List ℕ) : Type 0 where
  pub digit : ℕ
  pub digits : List ℕ
  pub rest : List ℕ
  pub whole : bytes ≡ (sign_bytes numeral.positive ++ digit ∷ digits) ++ numeral.blank ∷ rest
  pub all : list_all is_ascii_digit (digit ∷ digits) ≡ true
  pub value : numeral.value ≡ value_from 0 (digit ∷ digits)
  pub len : numeral.len ≡ length (sign_bytes numeral.positive ++ digit ∷ digits)
  pub blank : is_blank numeral.blank ≡ true
