use Rattle.std.proofs.Common.{◌∙◌, Bool, List, length, ap, subst}
use Rattle.var_order.specs.Heap.{ArePlaced}
use Rattle.var_order.specs.Order.{OrderState}
use Rattle.var_order.proofs.Members.{all_members}
use Rattle.var_order.proofs.order.Order.make.Goals as goal

-- all variables are in
pub returns : goal.returns
returns c =
    let heap = c.in_ok-heap.heap in
    let placed = subst (λ count. ArePlaced count heap) c.len.ensures c.in_ok-heap.ensures.placed in
    ap (λ (members : List Bool). let s : OrderState = record { activities = c.args.start; present = members } in s)
    (c.rebuild.ensures.members ∙ all_members (length c.args.start) heap placed (c.in_ok-heap.ensures.full ∙ c.len.ensures))
