use Rattle.std.proofs.Common.{◌≡◌, ◌∙◌, ℕ, length, arith, sym, subst, ap}
use Rattle.std.proofs.lemmas.List.{get_or_read}
use Rattle.var_order.specs.Heap.{var_at, parent_of, IsBelow, IsHeapButUp, HaveSwapped}
use Rattle.var_order.proofs.Heaps.{risen, below_at}
use Rattle.var_order.proofs.Members.{members_swapped}
use Rattle.var_order.proofs.heap.Heap.rise.Goals as goal

-- the variable stands one level higher
pub loop-at-preserved : goal.loop-at-preserved
loop-at-preserved c =
    let activities = c.args.activities.now in
    let old = c.loop-at.self in
    let new = c.swap.new.self in
    let at = c.loop-at.at in
    let before = c.loop-at.invariant in
    let placed = c.swap.ensures.placed (length activities) before.placed in
    let above = c.parent_of-above.ensures in
    let here : c.index.result.now ≡ var_at old at = get_or_read old.vars.items at c.index.result.now (omega (arith, before.placed.vars, before.placed.size, before.within)) c.index.ensures 0 in
    let there : c.index-in-loop-at.result.now ≡ var_at old (parent_of at) =
    get_or_read old.vars.items c.parent_of.result c.index-in-loop-at.result.now (omega (arith, before.placed.vars, before.placed.size, before.within, c.parent_of.ensures)) c.index-in-loop-at.ensures 0
    ∙ ap (var_at old) c.parent_of.ensures in
    let better : IsBelow activities (var_at old (parent_of at)) (var_at old at) = below_at activities _ _ _ _ (sym there) (sym here) c.if-is_better.ensures.better in
    record {
      placed = placed;
      within = omega (arith, above, before.within, c.swap.ensures.swapped.size);
      members = members_swapped (length activities) old new at c.parent_of-above.result before.placed placed c.swap.ensures.swapped before.within (omega (arith, above, before.within)) ∙ before.members;
      order = subst (λ (place : ℕ). IsHeapButUp place activities new) (sym above)
          (risen activities old new at (omega arith) before.within before.order better (subst (HaveSwapped old new at) above c.swap.ensures.swapped));
    }
