use Rattle.std.proofs.Common.{◌≡◌, ◌+◌, ◌-◌, ◌*◌, ◌<◌, take, get_or, true, ◌&&◌, sym, ap, ◌∙◌, arith, length-take}
use Rattle.std.specs.Char.{is_ascii_digit}
use Rattle.std.proofs.lemmas.List.Folds.{list_all_more}
use Rattle.lit_base.proofs.Numerals.{digit_range, value_more, digit_below, below_power, digit_fits}
use Rattle.lit_base.proofs.numeral.leading_digits.Goals as goal

-- the value of one digit more is one of 64 bits
pub overflow_mul-digits : goal.overflow_mul-digits
overflow_mul-digits c =
    let few : c.loop-byte.byte-index < 19 = omega (arith, c.requires, c.loop-byte-test.true, length-take c.min.result c.args.bytes.now, c.min.ensures) in
    let fits = digit_fits c.loop-byte.byte-index c.loop-byte.digits.value 0 c.loop-byte.invariant.small (omega arith) few in
    omega (arith, fits)

pub overflow_add-digits : goal.overflow_add-digits
overflow_add-digits c =
    let front = take c.min.result c.args.bytes.now in
    let i = c.loop-byte.byte-index in
    let digit : is_ascii_digit (get_or front i 0) ≡ true = sym c.is_ascii_digit.ensures.value ∙ c.if-not-is_ascii_digit.false in
    let range = digit_range (get_or front i 0) digit in
    let few : i < 19 = omega (arith, c.requires, c.loop-byte-test.true, length-take c.min.result c.args.bytes.now, c.min.ensures) in
    let fits = digit_fits i c.loop-byte.digits.value c.from.result c.loop-byte.invariant.small (omega (arith, c.from.ensures, range.1)) few in
    omega (arith, fits)

-- one digit more
pub loop-byte-preserved : goal.loop-byte-preserved
loop-byte-preserved c =
    let front = take c.min.result c.args.bytes.now in
    let i = c.loop-byte.byte-index in
    let digit : is_ascii_digit (get_or front i 0) ≡ true = sym c.is_ascii_digit.ensures.value ∙ c.if-not-is_ascii_digit.false in
    let range = digit_range (get_or front i 0) digit in
    record {
      count = omega arith;
      all = list_all_more is_ascii_digit front i 0 (omega arith) ∙ ap (λ t. t && is_ascii_digit (get_or front i 0)) c.loop-byte.invariant.all ∙ digit;
      value = ap (λ d. c.loop-byte.digits.value * 10 + d) c.from.ensures ∙ ap (λ v. v * 10 + (get_or front i 0 - 48)) c.loop-byte.invariant.value ∙ sym (value_more front i (omega arith));
      small = digit_below i c.loop-byte.digits.value c.from.result c.loop-byte.invariant.small (omega (arith, c.from.ensures, range.1));
    }

-- there are at most so many digits
pub returns-then-not-is_ascii_digit-clause-small : goal.returns-then-not-is_ascii_digit-clause-small
returns-then-not-is_ascii_digit-clause-small c =
    below_power c.loop-byte.byte-index c.args.most c.loop-byte.digits.value (omega (arith, c.loop-byte-test.true, length-take c.min.result c.args.bytes.now, c.min.ensures)) c.loop-byte.invariant.small

pub returns-clause-small : goal.returns-clause-small
returns-clause-small c =
    below_power c.loop-byte.byte-index c.args.most c.loop-byte.digits.value (omega (arith, c.loop-byte.auto.byte-index-end, length-take c.min.result c.args.bytes.now, c.min.ensures)) c.loop-byte.invariant.small
