use Rattle.std.proofs.Common.{subst, sym, arith, ℕ, List}
use Rattle.std.proofs.lemmas.List.{take_rest}
use Rattle.lit_base.specs.Numeral.{IsLeading}
use Rattle.lit_base.proofs.Numerals.{at_front}
use Rattle.lit_base.proofs.numeral.numeral_at_front.Goals as goal

-- the digits behind the sign, and the blank behind them
pub returns-clause-front : goal.returns-clause-front
returns-clause-front c =
    let bytes = c.args.bytes.now in
    let sign = c.sign_len-sign.result in
    let digits = c.leading_digits-digits.result in
    let leading = subst (λ (xs : List ℕ). IsLeading digits xs) (take_rest bytes sign) c.leading_digits-digits.ensures.leading in
    at_front bytes sign digits c.sign_len-sign.ensures.value leading (omega arith) (omega arith) (sym c.if-not-is_blank.ensures)
