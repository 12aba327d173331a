use Rattle.round_prop.proofs.Joined.{may-after}
use Rattle.round_prop.proofs.tests.extend.Goals as goal

-- propagation may go on from where it ended, and all is seen
pub returns-clause-may : goal.returns-clause-may
returns-clause-may g c = may-after c.args.pool.now c.args.trail.now c.propagate-found.new.trail c.propagate-found.new.self c.propagate-found.result c.propagate-found.ensures.propagated c.requires.within

pub returns-clause-seen : goal.returns-clause-seen
returns-clause-seen g c = c.propagate-found.ensures.propagated.attached
