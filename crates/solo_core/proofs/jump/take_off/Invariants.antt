use Rattle.std.proofs.Common.{◌≡◌, ◌+◌, ◌≤◌, length}
use Rattle.std.specs.List.{AllByRecursion}
use Rattle.lit_base.specs.Literal.{IsWithin}
use Rattle.trail_book.specs.TrailState.{jumped}
use Rattle.var_order.specs.Order.{HasAllFree}
use Rattle.solo_core.proofs.jump.take_off.Given as goal

-- the jump of what is left ends where the whole jump ends, each round lets an entry leave, and what is free is in the order
abbrev pub invariant-loop : goal.invariant-loop
invariant-loop l = record {
  rest : jumped l.level l.trail ≡ jumped l.level l.fn.trail;
  left : length l.trail.entries + l.counter ≤ l.end;
  within : AllByRecursion (λ e. IsWithin (length l.order.activities) e.lit) l.trail.entries;
  activities : l.order.activities ≡ l.fn.order.activities;
  present : HasAllFree l.order l.trail.entries;
}
