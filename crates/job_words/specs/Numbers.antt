-- Numbers as words write them.
use Rattle.std.specs.Prelude.{ℕ, nat_le, Bool, ◌&&◌, List, length, Option, Some, None, if◌then◌else◌}
use Rattle.std.specs.List.{list_all}
use Rattle.std.specs.Char.{is_ascii_digit}
use Rattle.std.specs.Str.Parse.{digits_value}

-- 1 to 20 decimal digits
abbrev pub is_number : List ℕ → Bool
is_number text = nat_le 1 (length text) && (nat_le (length text) 20 && list_all is_ascii_digit text)

-- the number of a text, where it is one in this range
abbrev pub number_of : ℕ → ℕ → List ℕ → Option ℕ
number_of low high text =
    if is_number text && (nat_le low (digits_value 10 text) && nat_le (digits_value 10 text) high) then Some (digits_value 10 text) else None

-- the number of a text that may be there, or else this one
abbrev pub number_given : ℕ → ℕ → ℕ → Option (List ℕ) → Option ℕ
number_given low high otherwise None = Some otherwise
number_given low high otherwise (Some text) = number_of low high text
