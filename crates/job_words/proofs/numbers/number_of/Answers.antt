use Rattle.std.proofs.Common.{rules}
use Rattle.job_words.proofs.Digits.{too_large}
use Rattle.job_words.proofs.numbers.number_of.Goals as goal

-- more than fits
pub returns-in_default-clause-number : goal.returns-in_default-clause-number
returns-in_default-clause-number c =
    too_large c.args.text.now c.in_default.field-0 c.args.low c.args.high (search rules) (search rules) c.in_default.ensures.value.0
