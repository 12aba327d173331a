use Rattle.round_prop.proofs.Joined.{may-after}
use Rattle.round_prop.proofs.tests.propagate.Goals as goal

-- propagation may go on from where it ended
pub returns : goal.returns
returns g c = may-after c.args.pool.now c.args.trail.now c.propagate-found.new.trail c.propagate-found.new.self c.propagate-found.result c.propagate-found.ensures.propagated c.requires.within
