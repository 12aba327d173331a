-- What a token is.
use Rattle.std.specs.Prelude.{ℕ, ◌==◌, min, Bool, true, false, List, [], ◌∷◌, codes, nat_eq, if◌then◌else◌}
use Rattle.std.specs.List.{list_all}
use Rattle.std.specs.Char.{is_ascii_digit}
use Rattle.lit_base.specs.Numeral.{value_from}
use Rattle.std.specs.Cmp.Lexicographic.{pointwise}
use Rattle.cnf_text.specs.declared.class.Class.{Class}
use Rattle.cnf_text.specs.declared.class.Class.TheVariants.{Magic, Format, Number, Other}

-- a number of this sign, where the bytes are digits, at least one; leading zeros are accepted
abbrev pub digits_class : Bool → List ℕ → Class
digits_class positive [] = Other
digits_class positive (d ∷ ds) = if list_all is_ascii_digit (d ∷ ds) then Number positive (value_from 0 (d ∷ ds)) else Other

-- what a token is: `p`, `cnf`, digits, `-` and digits, or something else
abbrev pub class_of : List ℕ → Class
class_of [] = Other
class_of (b ∷ bs) =
    if pointwise nat_eq (b ∷ bs) (codes "p") then Magic
    else (if pointwise nat_eq (b ∷ bs) (codes "cnf") then Format
    else (if b == 45 then digits_class false bs else digits_class true (b ∷ bs)))

-- the class with a value of at most a hundred million, above which no value is told from another
abbrev pub capped : Class → Class
capped Magic = Magic
capped Format = Format
capped (Number positive value) = Number positive (min value 100000000)
capped Other = Other
