use Rattle.std.proofs.Common.{◌≡◌, take}
use Rattle.solo_core.specs.Turn.{raised}
use Rattle.solo_core.proofs.weights.raise.Given as goal

-- the variables so far are raised
abbrev pub invariant-loop-var : goal.invariant-loop-var
invariant-loop-var l = l.order ≡ record l.fn.order { activities = raised l.weight (take l.var-index l.touched) l.fn.order.activities }
