-- What a token is.
use Rattle.std.specs.Prelude.{ℕ, ◌+◌, ◌-◌, ◌*◌, ◌==◌, min, Bool, true, false, List, [], ◌∷◌, codes, nat_eq, if◌then◌else◌}
use Rattle.std.specs.List.{list_all}
use Rattle.std.specs.Char.{is_ascii_digit}
use Rattle.std.specs.Cmp.Lexicographic.{pointwise}
use Rattle.lit_base.specs.Numeral.{value_from}
use Rattle.lrat_text.specs.declared.token.Token.{Token}
use Rattle.lrat_text.specs.declared.token.Token.TheVariants.{Empty, Deletion, Minus, Number, Other}

-- a number, with or without a `-` before it, where the bytes are digits; leading zeros are accepted
abbrev pub digits_class : Bool → List ℕ → Token
digits_class positive digits = if list_all is_ascii_digit digits then Number positive (value_from 0 digits) else Other

-- what stands behind a `-`
abbrev pub minus_class : List ℕ → Token
minus_class [] = Minus
minus_class (d ∷ ds) = digits_class false (d ∷ ds)

-- what a token is: `d`, digits, `-`, `-` and digits, or something else
abbrev pub class_of : List ℕ → Token
class_of [] = Empty
class_of (b ∷ bs) =
    if pointwise nat_eq (b ∷ bs) (codes "d") then Deletion
    else (if b == 45 then minus_class bs else digits_class true (b ∷ bs))

-- the class with a value of at most 2^63, above which no value is told from another
abbrev pub capped : Token → Token
capped Empty = Empty
capped Deletion = Deletion
capped Minus = Minus
capped (Number positive value) = Number positive (min value 9223372036854775808)
capped Other = Other

-- a number that goes on with this byte
abbrev pub with_digit : Bool → ℕ → ℕ → Token
with_digit positive value b =
    if is_ascii_digit b then Number positive (min (value * 10 + (b - 48)) 9223372036854775808) else Other

-- what a token so far becomes with one byte more
abbrev pub with_byte_pushed : Token → ℕ → Token
with_byte_pushed Empty b =
    if b == 100 then Deletion else (if b == 45 then Minus else with_digit true 0 b)
with_byte_pushed Deletion b = Other
with_byte_pushed Minus b = with_digit false 0 b
with_byte_pushed (Number positive value) b = with_digit positive value b
with_byte_pushed Other b = Other
