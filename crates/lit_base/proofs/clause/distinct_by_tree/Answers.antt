use Rattle.std.proofs.Common.{◌∙◌, ap, not, ℕ, arith}
use Rattle.std.specs.List.{list_any}
use Rattle.std.specs.Ordering.{nat_cmp}
use Rattle.std.specs.BTreeMap.{is_at}
use Rattle.std.specs.BTreeSet.{contains}
use Rattle.std.proofs.lemmas.Bool.{OnFalse_at}
use Rattle.lit_base.proofs.clause.distinct_by_tree.Goals as goal
use Rattle.lit_base.proofs.clause.distinct_by_tree.Goals.{then-branch+in_ok-push, else-branch}
use Rattle.lit_base.proofs.DistinctLits.{distinct_pushed, distinct_passed, places_after, places_same, has_by_places, items_of}

-- a literal whose place was not in the set is kept, another is passed over
pub loop-lit-preserved : goal.loop-lit-preserved
loop-lit-preserved c =
    let before = λ (k : ℕ). contains nat_cmp c.loop-lit.met k in
    let after = λ (k : ℕ). contains nat_cmp c.insert.new.self k in
    let there = has_by_places before c.loop-lit.kept.items c.lit-item.result _ c.index.ensures.value c.loop-lit.invariant.places _ c.in_ok-insert.ensures.added in
    elim c.if-branch.branch [
      | then-branch+in_ok-push w ↦ let pushed = items_of w.kept-is ∙ w.in_ok-push.ensures.ok in record {
        kept = distinct_pushed _ _ _ _ _ c.loop-lit.invariant.kept (omega arith) c.lit-item.is (there ∙ ap not w.if-branch.true) pushed;
        places = places_after before after _ _ _ _ c.index.ensures.value pushed c.loop-lit.invariant.places c.in_ok-insert.ensures.updates.0;
      }
      | else-branch w ↦ let unchanged = OnFalse_at w.if-branch.false c.in_ok-insert.ensures.unchanged in record {
        kept = items_of w.kept-is ∙ distinct_passed _ _ _ _ c.loop-lit.invariant.kept (omega arith) c.lit-item.is (there ∙ ap not w.if-branch.false);
        places = places_same before after _ _ (items_of w.kept-is) (λ k. ap (λ keys. list_any (is_at (nat_cmp k)) keys) unchanged) c.loop-lit.invariant.places;
      }
    ]
