use Rattle.std.proofs.Common.{◌≡◌, ◌+◌, ◌*◌, min, drop, subst, sym, ap, ◌∙◌, arith}
use Rattle.lit_base.specs.Numeral.{value_from}
use Rattle.cnf_text.proofs.Numbers.{capped_more}
use Rattle.cnf_text.proofs.class.value_of.Goals as goal

-- one digit more
pub loop-digit-preserved : goal.loop-digit-preserved
loop-digit-preserved c =
    let ds = c.args.digits.now in
    let i = c.loop-digit.digit-index in
    let e = c.min-value.ensures ∙ ap (λ d. min (c.loop-digit.value * 10 + d) 100000000) c.from.ensures in
    record {
      same = subst (λ v. min (value_from v (drop (i + 1) ds)) 100000000 ≡ min (value_from 0 ds) 100000000) (sym e) (capped_more ds c.loop-digit.value i (omega arith) c.loop-digit.invariant.same);
      small = omega (arith, e);
    }
