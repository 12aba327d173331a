use Rattle.std.proofs.Common.{◌∙◌, sym, ap, arith}
use Rattle.lit_base.proofs.clause.distinct_by_search.Goals as goal
use Rattle.lit_base.proofs.clause.distinct_by_search.Goals.{then-not-contains+in_ok-push, else-not-contains}
use Rattle.lit_base.proofs.DistinctLits.{distinct_pushed, distinct_passed, has, items_of}

-- a literal that is not among those kept is kept, another is passed over
pub loop-lit-preserved : goal.loop-lit-preserved
loop-lit-preserved c =
    let there = ap (λ kept. has kept c.lit-item.result) (sym c.as_slice.ensures) ∙ sym c.contains.ensures.value in
    elim c.if-not-contains.branch [
      | then-not-contains+in_ok-push w ↦ distinct_pushed _ _ _ _ _ c.loop-lit.invariant (omega arith) c.lit-item.is (there ∙ w.if-not-contains.true) (items_of w.kept-is ∙ w.in_ok-push.ensures.ok)
      | else-not-contains w ↦ items_of w.kept-is ∙ distinct_passed _ _ _ _ c.loop-lit.invariant (omega arith) c.lit-item.is (there ∙ w.if-not-contains.false)
    ]
