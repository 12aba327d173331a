-- Digits and the numbers that they stand for.
use Rattle.std.proofs.Common.{◌≡◌, ℕ, ◌≤◌, ◌<◌, ◌&&◌, nat_le, cond, Bool, true, false, List, length, refl, arith, rules, Some, None, Err}
use Rattle.std.proofs.lemmas.Grind.{common_steps}
use Rattle.std.specs.List.{list_all}
use Rattle.std.specs.Char.{is_ascii_digit}
use Rattle.std.specs.Str.Parse.{digits_value, ParsesUnsigned}
use Rattle.std.proofs.lemmas.Str.Parse.{IsNumeralModel, numerals_by_value, parse_digits}
use Rattle.job_words.specs.Numbers.{is_number, number_of}

-- std's words on digits
own : IsNumeralModel (λ digits. list_all is_ascii_digit digits ≡ true) (digits_value 10)
own = numerals_by_value _ (search rules)

-- what 1 to 20 digits are
record AreDigits (text : List ℕ) : Type 0 where
  all : list_all is_ascii_digit text ≡ true
  some : 1 ≤ length text

digits_of : (text : List ℕ) → is_number text ≡ true → AreDigits text
digits_of text is = record { all = grind (arith, common_steps, is); some = grind (arith, common_steps, is) }

-- digits that weren't read stand for no number of so few bits
pub too_large : {E : Type 0} (text : List ℕ) (fault : E) (low high : ℕ) → is_number text ≡ true → high < 18446744073709551616
    → ParsesUnsigned 64 10 text (Err fault) → None ≡ number_of low high text
too_large text fault low high is small read =
    by (is_number text && (nat_le low (digits_value 10 text) && nat_le (digits_value 10 text) high)) refl
  where
    by : (test : Bool) → (is_number text && (nat_le low (digits_value 10 text) && nat_le (digits_value 10 text) high)) ≡ test
        → None ≡ cond test (Some (digits_value 10 text)) None
    by false fails = refl
    by true holds = absurd (parse_digits own 64 text (Err fault) read (digits_of text is).all ((digits_of text is).some, grind (arith, common_steps, holds, small)))
