use Rattle.std.proofs.Common.{◌∙◌, ap, sym, arith}
use Rattle.lit_base.specs.LitSet.{LitSetState}
use Rattle.lit_base.proofs.DistinctLits.{with_new, distinct_step}
use Rattle.lit_base.proofs.Flags.{with_lit-is}
use Rattle.lit_base.proofs.lit_set.LitSet.keep.Goals as goal

-- one literal more
pub loop-lit-preserved : goal.loop-lit-preserved
loop-lit-preserved c =
    let x = c.lit-item.result in
    record {
      kept = ap (λ (s : LitSetState). s.lits) c.in_ok-insert.ensures.ok ∙ with_lit-is c.loop-lit.self.lits x ∙ ap (λ kept. with_new kept x) c.loop-lit.invariant.kept
          ∙ sym (distinct_step c.args.lits.now c.loop-lit.lit-index x (omega arith) c.lit-item.is);
      same = ap (λ (s : LitSetState). s.variables) c.in_ok-insert.ensures.ok ∙ c.loop-lit.invariant.same;
    }
