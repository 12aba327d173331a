use Rattle.std.proofs.Common.{◌≡◌, ◌++◌, ◌/◌, map, take, drop, length}
use Rattle.var_order.proofs.order.halve_all.Given as goal

-- the activities so far are halved, and the others are as they were
abbrev pub invariant-loop-place : goal.invariant-loop-place
invariant-loop-place l = record {
  halved : l.activities ≡ map (λ a. a / 2) (take l.place l.initial.activities) ++ drop l.place l.initial.activities;
  all : length l.activities ≡ l.place-end;
}
