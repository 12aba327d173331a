use Rattle.std.proofs.Common.{◌<◌, ◌∙◌, length, arith}
use Rattle.std.proofs.Math.Seq.{map-set_same}
use Rattle.crew.specs.Parties.{PartyAt, PartySent}
use Rattle.crew.specs.Working.{PlaceAt, numbers_at}
use Rattle.crew.proofs.Working.{before_more, from_more}
use Rattle.crew.proofs.places.send_places.Goals as goal

-- the cores at one more place have sent their posts
pub loop-i-preserved : goal.loop-i-preserved
loop-i-preserved g c =
    let board = c.args.board.now in
    let cnf = c.args.formula.now in
    let settings = c.args.settings.now in
    let l = c.loop-i in
    let place = c.send_place.new.place in
    let within : l.i < length l.places = omega (arith, l.auto.places, l.auto.i-end, c.loop-i-test.true) in
    record {
      sent = before_more (PlaceAt board cnf settings (PartySent board cnf settings c.args.past)) l.i l.places place within c.send_place.ensures.place l.invariant.sent;
      left = from_more (PlaceAt board cnf settings (PartyAt board cnf settings c.args.past)) l.i l.places place l.invariant.left;
      numbers_kept = map-set_same numbers_at l.places l.i place c.index-places-i.result c.send_place.ensures.numbers ∙ l.invariant.numbers_kept;
    }
