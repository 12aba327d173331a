use Rattle.std.proofs.Common.{◌∙◌, sym, ap, ◌++◌, ◌∷◌, []}
use Rattle.lit_base.specs.Trail.{values_from}
use Rattle.solo_core.proofs.Values.{values-more}
use Rattle.solo_core.proofs.handing.values_of.Goals as goal

-- one value more
pub loop-index-preserved : goal.loop-index-preserved
loop-index-preserved c =
    c.in_ok-push.ensures.ok
    ∙ (ap (λ vs. vs ++ c.value_of.result ∷ []) c.loop-index.invariant ∙ (ap (λ v. values_from c.loop-index.index 1 c.args.trail.now.entries ++ v ∷ []) c.value_of.ensures ∙ sym (values-more c.loop-index.index c.args.trail.now.entries)))
