use Rattle.std.proofs.Common.{◌+◌, ◌<◌, ◌∙◌, length, set, sym, subst, arith}
use Rattle.std.proofs.Math.Seq.{map-set_same}
use Rattle.crew.specs.Parties.{PartySent}
use Rattle.crew.specs.Working.{PlaceAt, numbers_at}
use Rattle.crew.proofs.Working.{from_more}
use Rattle.crew.proofs.Serving.{HaveReceived, received_more, all_received}
use Rattle.crew.proofs.places.receive_places.Goals as goal

-- the cores at one more place have received the posts of the others
pub loop-i-preserved : goal.loop-i-preserved
loop-i-preserved g c =
    let board = c.args.board.now in
    let cnf = c.args.formula.now in
    let settings = c.args.settings.now in
    let past = c.args.past in
    let l = c.loop-i in
    let place = c.receive_place-step.new.place in
    let within : l.i < length l.places = omega (arith, l.auto.places, l.auto.i-end, c.loop-i-test.true) in
    record {
      received = subst (HaveReceived board cnf settings past (l.i + 1) (set l.places l.i place)) (sym c.joint_places-came.ensures)
          (received_more board cnf settings past l.i l.places place l.came c.receive_place-step.result within l.invariant.received c.receive_place-step.ensures.receives);
      left = from_more (PlaceAt board cnf settings (PartySent board cnf settings past)) l.i l.places place l.invariant.left;
      numbers_kept = map-set_same numbers_at l.places l.i place c.index-places-i.result c.receive_place-step.ensures.numbers ∙ l.invariant.numbers_kept;
    }
