use Rattle.std.proofs.Common.{false, refl, arith, rules}
use Rattle.clause_pool.proofs.Following.{blank}
use Rattle.clause_pool.proofs.Tallying.{slot_order, tallied_on}
use Rattle.clause_pool.proofs.tally.tallies_of.Goals as goal

-- a slot ends where it begins or later
pub overflow_sub-size : goal.overflow_sub-size
overflow_sub-size c = slot_order c.args.slots.now c.loop-place.place c.loop-place.start _ blank c.requires.ends (omega arith) refl c.loop-place.invariant.begin

-- a lemma whose flag is low is put behind those so far
pub loop-place-preserved : goal.loop-place-preserved
loop-place-preserved c =
    tallied_on c.args.slots.now c.args.flags.now c.loop-place.tallies.items _ c.loop-place.place c.loop-place.start _ blank false _ c.loop-place.invariant (omega arith) refl c.is_low_lemma.ensures (search rules)
    (search rules)
