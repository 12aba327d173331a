use Rattle.std.proofs.Common.{rules}
use Rattle.round_prop.proofs.Joined.{may-first}
use Rattle.round_prop.proofs.tests.play_on.Goals as goal

-- no clause is held, and none is attached
pub loop-act-init : goal.loop-act-init
loop-act-init g c = record {
  may = may-first c.in_ok-rounds.rounds c.new-pool.result c.in_ok-trail.trail c.new-pool.ensures c.in_ok-rounds.ensures.attached (c.in_ok-rounds.ensures.placed c.new-pool.result.added) (search rules);
  names = search rules;
}
