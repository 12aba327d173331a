use Rattle.std.proofs.Common.{◌^◌, ap, ◌∙◌, sym}
use Rattle.std.specs.Prelude.{nat_le}
use Rattle.trail_book.proofs.Tellings.{is_false-standing}
use Rattle.round_prop.proofs.clause.is_false.Goals as goal

-- false literals stand from 2^31 on
pub returns : goal.returns
returns c = ap (λ s. nat_le (2 ^ 31) s) c.standing.ensures.value ∙ sym (is_false-standing c.args.trail.now.entries c.args.lit c.standing.ensures.trail.few)
