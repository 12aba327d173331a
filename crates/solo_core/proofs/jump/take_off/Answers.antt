use Rattle.std.proofs.Common.{◌≡◌, true, List, ℕ, length, refl, ap, sym, ◌∙◌, subst, arith}
use Rattle.std.specs.List.{AllByRecursion}
use Rattle.lit_base.specs.Literal.{IsWithin}
use Rattle.lit_base.specs.declared.trail.Entry.{Entry}
use Rattle.var_order.specs.Order.{OrderState, is_present, HasAllFree, put_back}
use Rattle.solo_core.proofs.Orders.{left_present}
use Rattle.solo_core.proofs.jump.take_off.Goals as goal

-- all entries are of variables
pub loop-init : goal.loop-init
loop-init c = record {
  rest = refl;
  left = let few = c.len-end.ensures.value in omega arith;
  within = subst (λ n. AllByRecursion (λ e. IsWithin n e.lit) c.args.trail.now.entries) (sym c.requires.same) c.len-end.ensures.trail.within;
  activities = refl;
  present = c.requires.present;
}

-- so is the entry that leaves
pub put_back-requires-clause-within : goal.put_back-requires-clause-within
put_back-requires-clause-within c =
    let here = subst (λ (es : List Entry). AllByRecursion (λ e. IsWithin (length c.loop.order.activities) e.lit) es) c.in-Some.ensures.newest c.loop.invariant.within in
    omega (arith, here.0.1, c.var.ensures.value)

-- its variable comes back into the order
pub loop-preserved : goal.loop-preserved
loop-preserved c =
    let e = c.in-Some.entry in
    let order = c.loop.order in
    let same = ap (λ (o : OrderState). o.activities) c.put_back.ensures.order in
    let all = subst (λ (es : List Entry). AllByRecursion (λ e. IsWithin (length order.activities) e.lit) es) c.in-Some.ensures.newest c.loop.invariant.within in
    record {
      rest = c.leave.ensures.rest ∙ c.loop.invariant.rest;
      left = let size = ap (λ (es : List Entry). length es) c.in-Some.ensures.newest in omega (arith, size, c.loop.invariant.left);
      within = subst (λ (xs : List ℕ). AllByRecursion (λ e. IsWithin (length xs) e.lit) c.leave.new.self.entries) (sym same) all.1;
      activities = same ∙ c.loop.invariant.activities;
      present = left_present order c.put_back.new.self e c.leave.new.self.entries all.0.0 (c.put_back.ensures.order ∙ ap (λ v. put_back v order) c.var.ensures.value)
          (subst (λ v. is_present c.put_back.new.self v ≡ true) c.var.ensures.value c.put_back.ensures.present)
          (subst (λ (es : List Entry). HasAllFree order es) c.in-Some.ensures.newest c.loop.invariant.present);
    }
