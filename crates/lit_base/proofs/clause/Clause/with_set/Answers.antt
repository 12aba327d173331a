use Rattle.std.proofs.Common.{◌∙◌, sym, subst}
use Rattle.std.specs.List.{IsDistinct}
use Rattle.lit_base.specs.Literal.{same}
use Rattle.lit_base.proofs.Apart.{distinct_apart}
use Rattle.lit_base.proofs.clause.Clause.with_set.Goals as goal

-- the distinct literals are distinct
pub invariant_of-result : goal.invariant_of-result
invariant_of-result c =
    subst (IsDistinct same) (sym (c.in_ok-from_slice.ensures.ok ∙ c.as_slice.ensures ∙ c.in_ok-keep.ensures.ok)) (distinct_apart c.args.lits.now)
