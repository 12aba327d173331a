use Rattle.std.proofs.Common.{◌∙◌, arith}
use Rattle.lit_base.specs.Named.{lits_at}
use Rattle.lit_base.specs.Held.{clauses_of}
use Rattle.first_uip.proofs.Counted.{counted_none}
use Rattle.first_uip.proofs.Gathered.{room_same}
use Rattle.first_uip.proofs.Stepped.{walked_more}
use Rattle.first_uip.proofs.walk.Walk.walk_level.Goals as goal

-- one step further
pub loop-place-preserved : goal.loop-place-preserved
loop-place-preserved c =
    let grows = c.step.ensures.grows in
    let spare = c.loop-place.invariant.spare in
    record {
      flags = c.step.ensures.flags ∙ c.loop-place.invariant.flags;
      places = c.step.ensures.places ∙ c.loop-place.invariant.places;
      counted = c.step.ensures.counted;
      spare = record {
        lits = omega (arith, spare.lits, grows.lits, grows.room.lits);
        hints = omega (arith, spare.hints, grows.hints, grows.room.hints);
        touched = omega (arith, spare.touched, grows.touched, grows.room.touched);
      };
      room = room_same c.args.self.now c.loop-place.self c.step.new.self c.loop-place.invariant.room grows.room;
      walked = λ t stands.
          walked_more (lits_at (clauses_of c.args.pool.now.held)) c.args.level c.loop-place.place c.args.trail.now.entries c.loop-place.self c.step.new.self t (omega arith) (omega arith)
          c.step.ensures.traces (c.loop-place.invariant.walked t stands);
    }

-- past the oldest entry none counts
pub returns-clause-none_left : goal.returns-clause-none_left
returns-clause-none_left c =
    counted_none c.args.level c.loop-place.place c.args.trail.now.entries c.loop-place.self.marks (omega arith) c.loop-place.invariant.counted
