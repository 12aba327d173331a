use Rattle.std.proofs.Common.{◌≡◌, ◌+◌, ◌<◌, ◌∙◌, ℕ, true, List, ap, sym, subst, arith}
use Rattle.std.specs.Prelude.{Some}
use Rattle.std.proofs.lemmas.Bool.Decides.{nat_tests}
use Rattle.lit_base.specs.Trail.{is_free}
use Rattle.var_order.specs.Order.{pick_of}
use Rattle.var_order.proofs.Picks.{top_is_picked, none_is_picked}
use Rattle.var_order.proofs.order.Order.pick.Goals as goal

-- the variable at the top was free
pub returns-then-is_free-clause-value : goal.returns-then-is_free-clause-value
returns-then-is_free-clause-value c =
    let inside = c.loop-self.self-inside in
    let trail = c.args.trail.now.entries in
    let left = c.loop-self.invariant.left in
    let some : 0 < inside.heap.size = grind (arith, nat_tests) in
    let taken : is_free trail (c.take_best-var.result + 1) ≡ true = cc in
    let free = subst (λ (v : ℕ). is_free trail (v + 1) ≡ true) c.take_best-var.ensures.best taken in
    ap (λ (v : ℕ). Some (v + 1)) c.take_best-var.ensures.best
    ∙ sym (top_is_picked inside.activities inside.heap trail c.loop-self.invariant.index left.free some free)
    ∙ ap (λ (activities : List ℕ). pick_of activities trail) left.activities

-- no variable was left
pub returns-clause-value : goal.returns-clause-value
returns-clause-value c =
    let inside = c.loop-self.self-inside in
    let trail = c.args.trail.now.entries in
    let left = c.loop-self.invariant.left in
    let none : inside.heap.size ≡ 0 = grind (arith, nat_tests) in
    sym (none_is_picked inside.activities inside.heap trail c.loop-self.invariant.index left.free none)
    ∙ ap (λ (activities : List ℕ). pick_of activities trail) left.activities
