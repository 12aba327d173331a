use Rattle.std.proofs.Common.{◌<◌, ◌∙◌, length, arith}
use Rattle.std.proofs.Math.Seq.{map-set_same}
use Rattle.crew.specs.Parties.{number_of, PartySent}
use Rattle.crew.proofs.Working.{received_joined, from_more}
use Rattle.crew.proofs.worker.receive_each.Goals as goal

-- one more core has received the posts of the others
pub loop-i-preserved : goal.loop-i-preserved
loop-i-preserved g c =
    let board = c.args.board.now in
    let cnf = c.args.formula.now in
    let settings = c.args.settings.now in
    let past = c.args.past in
    let l = c.loop-i in
    let party = c.receive-step.new.party in
    let within : l.i < length l.parties = omega (arith, l.auto.parties, l.auto.i-end, c.loop-i-test.true) in
    record {
      received = received_joined board cnf settings past l.i l.parties party l.came c.receive-step.result c.joint.result c.joint.ensures within c.receive-step.ensures.receives l.invariant.received;
      left = from_more (PartySent board cnf settings past) l.i l.parties party l.invariant.left;
      numbers = map-set_same number_of l.parties l.i party c.index-parties-i.result c.receive-step.ensures.number ∙ l.invariant.numbers;
    }
