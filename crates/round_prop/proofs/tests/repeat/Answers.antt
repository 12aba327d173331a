use Rattle.std.proofs.Common.{◌≡◌, length, arith}
use Rattle.round_prop.proofs.Joined.{may-after}
use Rattle.round_prop.proofs.Playing.{nothing_read}
use Rattle.round_prop.proofs.tests.repeat.Goals as goal

-- propagation may go on from where it ended
pub returns-clause-may : goal.returns-clause-may
returns-clause-may g c = may-after c.args.pool.now c.args.trail.now c.propagate-found.new.trail c.propagate-found.new.self c.propagate-found.result c.propagate-found.ensures.propagated c.requires.may.within

-- all was seen, and no entry is new
pub returns-clause-steps : goal.returns-clause-steps
returns-clause-steps g c =
    let after = c.propagate-found.new.trail in
    let long : length after.entries ≡ length c.args.trail.now.entries = omega (arith, c.len.ensures.value, c.len-len.ensures.value) in
    nothing_read c.args.pool.now c.args.trail.now after c.args.rounds.now c.propagate-found.new.self c.propagate-found.result c.args.steps.now c.propagate-found.new.steps
    c.propagate-found.ensures.propagated long c.requires.seen c.propagate-found.ensures.few c.propagate-found.ensures.steps
