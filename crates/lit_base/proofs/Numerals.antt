-- Digits, and numbers at the front of a text.
use Rattle.std.proofs.Common.{◌≡◌, ℕ, zero, suc, ◌+◌, ◌-◌, ◌*◌, ◌≤◌, ◌<◌, ◌==◌, ◌^◌, true, false, leb, List, [], ◌∷◌, ◌++◌, length, get_or, take, drop, refl, sym, ap, ◌∙◌, subst, arith, rules, length-take, decimal}
use Rattle.std.specs.List.{list_all}
use Rattle.std.specs.Char.{is_ascii_digit}
use Rattle.std.proofs.lemmas.List.{drop_more, take_more, take-append-drop}
use Rattle.std.proofs.lemmas.Bool.{and_parts, ne_eqb, leb-true}
use Rattle.std.proofs.Math.Nat.{pow-suc, pow-le-pow_right}
use Rattle.std.proofs.lemmas.Str.Parse.{IsNumeralModel, numerals_by_fold}
use Rattle.std.proofs.lemmas.Fmt.{digits_decimal, digits_value-decimal, length-decimal-le, decimal_nonempty}
use Rattle.lit_base.specs.declared.numeral.Digits.{Digits}
use Rattle.lit_base.specs.Lines.{is_blank}
use Rattle.lit_base.specs.Numeral.{value_from, IsLeading, IsSign, IsAtFront}

-- a digit is one of `0` to `9`
pub digit_range : (d : ℕ) → is_ascii_digit d ≡ true → (48 ≤ d) × (d ≤ 57)
digit_range d is =
    let parts = and_parts (leb 48 d) (leb d 57) is in
    (leb-true 48 d parts.0, leb-true d 57 parts.1)

pub value_from-append : (n : ℕ) (ds es : List ℕ) → value_from n (ds ++ es) ≡ value_from (value_from n ds) es
value_from-append n [] es = refl
value_from-append n (d ∷ ds) es = value_from-append (n * 10 + (d - 48)) ds es

-- the value of one digit more
pub value_more : (bytes : List ℕ) (i : ℕ) → i < length bytes → value_from 0 (take (i + 1) bytes) ≡ value_from 0 (take i bytes) * 10 + (get_or bytes i 0 - 48)
value_more bytes i lt = ap (value_from 0) (take_more bytes i 0 lt) ∙ value_from-append 0 (take i bytes) (get_or bytes i 0 ∷ [])

-- so many digits are below a power of ten, and so is one more
pub digit_below : (i value d : ℕ) → value < 10 ^ i → d ≤ 9 → value * 10 + d < 10 ^ (i + 1)
digit_below i value d small digit =
    let next : 10 ^ (i + 1) ≡ 10 ^ i * 10 = ap (λ n. 10 ^ n) (let e : i + 1 ≡ suc i = omega arith in e) ∙ pow-suc 10 i in
    omega (arith, next)

-- fewer digits are below the power of more
pub below_power : (i most value : ℕ) → i ≤ most → value < 10 ^ i → value < 10 ^ most
below_power i most value few small =
    let power : 10 ^ i ≤ 10 ^ most = pow-le-pow_right (omega arith) few in
    omega arith

-- 19 digits are a number of 64 bits
pub digit_fits : (i value d : ℕ) → value < 10 ^ i → d ≤ 9 → i < 19 → value * 10 + d < 2 ^ 64
digit_fits i value d small digit few =
    let below = below_power (i + 1) 19 (value * 10 + d) (omega arith) (digit_below i value d small digit) in
    omega arith

-- a list that isn't empty, by its first item
pub record IsCons (xs : List ℕ) : Type 0 where
  pub first : ℕ
  pub others : List ℕ
  pub is : xs ≡ first ∷ others

pub cons_of : (xs : List ℕ) → 0 < length xs → IsCons xs
cons_of [] some = absurd (omega arith)
cons_of (x ∷ xs) some = record { first = x; others = xs; is = refl }

-- a front of a text that isn't all of it, and the byte behind it
pub record IsSplit (count : ℕ) (bytes : List ℕ) : Type 0 where
  pub first : ℕ
  pub others : List ℕ
  pub front : take count bytes ≡ first ∷ others
  pub len : length (first ∷ others) ≡ count
  pub whole : bytes ≡ (first ∷ others) ++ get_or bytes count 0 ∷ drop (count + 1) bytes

pub split_at : (count : ℕ) (bytes : List ℕ) → 0 < count → count < length bytes → IsSplit count bytes
split_at count bytes some less =
    let cons = cons_of (take count bytes) (omega (arith, length-take count bytes)) in
    record {
      first = cons.first;
      others = cons.others;
      front = cons.is;
      len = omega (arith, ap length cons.is, length-take count bytes);
      whole = sym (take-append-drop count bytes) ∙ ap (λ (xs : List ℕ). take count bytes ++ xs) (drop_more bytes count 0 less) ∙ ap (λ (xs : List ℕ). xs ++ get_or bytes count 0 ∷ drop (count + 1) bytes) cons.is;
    }

-- what the function finds is at the front
pub at_front : (bytes : List ℕ) (sign : ℕ) (digits : Digits) → IsSign bytes sign → IsLeading digits (drop sign bytes) → 0 < digits.count → sign + digits.count < length bytes
    → is_blank (get_or bytes (sign + digits.count) 0) ≡ true
    → IsAtFront (record { positive = sign == 0; value = digits.value; len = sign + digits.count; blank = get_or bytes (sign + digits.count) 0 }) bytes
at_front bytes zero digits sign leading some less blank =
    let split = split_at digits.count bytes some (omega arith) in
    let at : zero + digits.count ≡ digits.count = omega arith in
    record {
      digit = split.first;
      digits = split.others;
      rest = drop (digits.count + 1) bytes;
      whole = split.whole ∙ ap (λ i. (split.first ∷ split.others) ++ get_or bytes i 0 ∷ drop (digits.count + 1) bytes) (sym at);
      all = ap (list_all is_ascii_digit) (sym split.front) ∙ leading.all;
      value = leading.value ∙ ap (value_from 0) split.front;
      len = omega (arith, split.len);
      blank = blank;
    }
at_front bytes (suc n) digits sign leading some less blank =
    subst (λ t. IsAtFront (record { positive = t; value = digits.value; len = suc n + digits.count; blank = get_or bytes (suc n + digits.count) 0 }) bytes)
    (sym (ne_eqb (suc n) 0 (λ e. omega arith))) (signed bytes n sign.0 sign.1.0 sign.1.1 leading less blank)
  where
    signed : (bytes : List ℕ) (n : ℕ) → n ≡ 0 → (others : List ℕ) → bytes ≡ 45 ∷ others → IsLeading digits (drop (suc n) bytes) → suc n + digits.count < length bytes
        → is_blank (get_or bytes (suc n + digits.count) 0) ≡ true
        → IsAtFront (record { positive = false; value = digits.value; len = suc n + digits.count; blank = get_or bytes (suc n + digits.count) 0 }) bytes
    signed bytes n one others minus leading less blank =
        let at : suc n + digits.count ≡ suc digits.count = omega arith in
        let behind : drop (suc n) bytes ≡ others = ap (λ m. drop (suc m) bytes) one ∙ ap (λ (xs : List ℕ). drop (suc 0) xs) minus in
        let byte : get_or bytes (suc n + digits.count) 0 ≡ get_or others digits.count 0 = ap (λ i. get_or bytes i 0) at ∙ ap (λ (xs : List ℕ). get_or xs (suc digits.count) 0) minus in
        let split = split_at digits.count others some (omega (arith, ap length minus)) in
        record {
          digit = split.first;
          digits = split.others;
          rest = drop (digits.count + 1) others;
          whole = minus ∙ ap (λ (xs : List ℕ). 45 ∷ xs) split.whole ∙ ap (λ b. 45 ∷ ((split.first ∷ split.others) ++ b ∷ drop (digits.count + 1) others)) (sym byte);
          all = ap (list_all is_ascii_digit) (sym split.front) ∙ ap (λ (xs : List ℕ). list_all is_ascii_digit (take digits.count xs)) (sym behind) ∙ leading.all;
          value = leading.value ∙ ap (λ (xs : List ℕ). value_from 0 (take digits.count xs)) behind ∙ ap (value_from 0) split.front;
          len = omega (arith, split.len);
          blank = blank;
        }

-- a digit is no blank
pub digit_is_solid : (d : ℕ) → is_ascii_digit d ≡ true → is_blank d ≡ false
digit_is_solid d is =
    let range = digit_range d is in
    rw (ne_eqb d 32 (λ e. omega arith), ne_eqb d 10 (λ e. omega arith), ne_eqb d 9 (λ e. omega arith), ne_eqb d 13 (λ e. omega arith)) refl

-- no byte is a blank
abbrev pub AreSolid : List ℕ → Type 0
AreSolid [] = Unit {0}
AreSolid (b ∷ bs) = (is_blank b ≡ false) × AreSolid bs

pub digits_are_solid : (ds : List ℕ) → list_all is_ascii_digit ds ≡ true → AreSolid ds
digits_are_solid [] all = tt
digits_are_solid (d ∷ ds) all =
    let parts = and_parts (is_ascii_digit d) (list_all is_ascii_digit ds) all in
    (digit_is_solid d parts.0, digits_are_solid ds parts.1)

-- std's words on digits, at `value_from`
own : IsNumeralModel (λ ds. list_all is_ascii_digit ds ≡ true) (value_from 0)
own = numerals_by_fold _ (search rules) value_from (search rules)

-- a number in decimal, by its first digit, and at most how many digits it has
pub record IsDecimal (most n : ℕ) : Type 0 where
  pub digit : ℕ
  pub digits : List ℕ
  pub is : decimal n ≡ digit ∷ digits
  pub all : list_all is_ascii_digit (digit ∷ digits) ≡ true
  pub value : value_from 0 (digit ∷ digits) ≡ n
  pub short : length (digit ∷ digits) ≤ most

pub decimal_is : (most n : ℕ) → 0 < most → n < 10 ^ most → n < 2 ^ 64 → IsDecimal most n
decimal_is most n some few small =
    let cons = cons_of (decimal n) (decimal_nonempty n small) in
    record {
      digit = cons.first;
      digits = cons.others;
      is = cons.is;
      all = ap (list_all is_ascii_digit) (sym cons.is) ∙ digits_decimal own n small;
      value = ap (value_from 0) (sym cons.is) ∙ digits_value-decimal own n small;
      short = omega (arith, ap length cons.is, length-decimal-le most n some few small);
    }
