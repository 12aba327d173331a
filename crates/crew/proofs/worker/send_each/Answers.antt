use Rattle.std.proofs.Common.{◌<◌, ◌∙◌, length, arith}
use Rattle.std.proofs.Math.Seq.{map-set_same}
use Rattle.crew.specs.Parties.{number_of, PartyAt, PartySent}
use Rattle.crew.proofs.Working.{before_more, from_more}
use Rattle.crew.proofs.worker.send_each.Goals as goal

-- one more core has sent its posts
pub loop-i-preserved : goal.loop-i-preserved
loop-i-preserved g c =
    let l = c.loop-i in
    let party = c.send.new.party in
    let within : l.i < length l.parties = omega (arith, l.auto.parties, l.auto.i-end, c.loop-i-test.true) in
    record {
      sent = before_more (PartySent c.args.board.now c.args.formula.now c.args.settings.now c.args.past) l.i l.parties party within c.send.ensures.sent l.invariant.sent;
      left = from_more (PartyAt c.args.board.now c.args.formula.now c.args.settings.now c.args.past) l.i l.parties party l.invariant.left;
      numbers = map-set_same number_of l.parties l.i party c.index-parties-i.result c.send.ensures.number ∙ l.invariant.numbers;
    }
