use Rattle.std.proofs.Common.{◌≡◌, ◌-◌, length, get_or, vec_len, ap, ◌∙◌, arith, rules}
use Rattle.first_uip.proofs.Gathered.{room_same, way_more, way_ends}
use Rattle.first_uip.proofs.walk.Walk.gather_older.Goals as goal

-- one entry more
pub loop-index-preserved : goal.loop-index-preserved
loop-index-preserved c =
    let now = c.loop-index.invariant in
    let grows = c.gather.ensures.grows in
    let spare = now.spare in
    let places = c.args.self.now.places in
    let long : vec_len places ≡ length places.items = search rules in
    let at_place = c.index-place.ensures ∙ ap (λ ps. get_or ps.items (c.loop-index.index - 1) c.index-place.result.now) now.places in
    record {
      marks = c.gather.ensures.marks ∙ now.marks;
      places = c.gather.ensures.places ∙ now.places;
      spare = record {
        lits = omega (arith, spare.lits, grows.lits, grows.room.lits);
        hints = omega (arith, spare.hints, grows.hints, grows.room.hints);
        touched = omega (arith, spare.touched, grows.touched, grows.room.touched);
      };
      room = room_same c.args.self.now c.loop-index.self c.gather.new.self now.room grows.room;
      gathered = λ look entries t at has.
          way_more look c.args.trail.now.entries c.args.level c.args.self.now.places.items c.loop-index.index c.index-place.result.now c.entry-entry.result c.loop-index.self c.gather.new.self entries t
          (omega arith) (omega (arith, long, c.len-index.ensures)) at_place c.entry-entry.ensures.value (c.gather.ensures.gathered look) (now.gathered look entries t at has);
    }

-- all were met
pub returns-clause-gathered : goal.returns-clause-gathered
returns-clause-gathered c = λ look entries t at has.
    way_ends look c.args.trail.now.entries c.args.level c.args.self.now.places.items c.loop-index.index c.loop-index.self entries t (omega arith) (c.loop-index.invariant.gathered look entries t at has)
