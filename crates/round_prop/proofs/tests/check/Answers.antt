use Rattle.std.proofs.Common.{sym, ◌∙◌}
use Rattle.round_prop.proofs.Joined.{may-first, may-above}
use Rattle.round_prop.proofs.tests.check.Goals as goal

-- no clause is held, and none is attached
pub hold_all-requires : goal.hold_all-requires
hold_all-requires g c =
    may-first c.in_ok-rounds.rounds c.new-pool.result c.loop-number.trail c.new-pool.ensures c.in_ok-rounds.ensures.attached (c.in_ok-rounds.ensures.placed c.new-pool.result.added)
    (c.in_ok-rounds.ensures.variables ∙ sym c.loop-number.invariant)

-- no entry has left
pub release-requires : goal.release-requires
release-requires g c = may-above c.hold_all.new.pool c.propagate.new.trail c.propagate.new.rounds c.jumped.new.self c.jumped.ensures.above c.jumped.ensures.placed c.jumped.ensures.variables c.propagate.ensures
