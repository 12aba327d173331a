use Rattle.std.proofs.Common.{arith, length-take}
use Rattle.dp2ll.proofs.ReadingLemmas.{piece_taken, piece_fed, piece_stops}
use Rattle.desk_io.specs.declared.Slot.TheVariants.{Formula}
use Rattle.dp2ll.proofs.read.read_piece.Goals as goal

-- the piece was read without a fault
pub returns-in-Ok-feed-clause-piece : goal.returns-in-Ok-feed-clause-piece
returns-in-Ok-feed-clause-piece g c = λ taken read.
    let fed = c.in-Ok-feed.ensures.feeds taken read in
    piece_fed ((g.I.Inputs.told c.args.inputs.now).at Formula) ((g.I.Inputs.told c.read.new.self).at Formula) c.feed.new.self taken c.done.result
    (piece_taken _ _ c.read.new.buf _ c.in-Ok.count c.in-Ok.ensures.left (omega (arith, c.read.auto.buf)) (grind arith))
    (grind (arith, length-take c.in-Ok.count c.read.new.buf)) fed.0 fed.1 (c.done.ensures _ fed.0)

-- the piece has a fault
pub returns-in-Err-feed-clause-piece : goal.returns-in-Err-feed-clause-piece
returns-in-Err-feed-clause-piece g c = λ taken read.
    piece_stops ((g.I.Inputs.told c.args.inputs.now).at Formula) ((g.I.Inputs.told c.read.new.self).at Formula) taken c.in-Err-feed.fault c.stop_of.result
    (piece_taken _ _ c.read.new.buf _ c.in-Ok.count c.in-Ok.ensures.left (omega (arith, c.read.auto.buf)) (grind arith))
    (c.in-Err-feed.ensures.feeds taken read).1 c.stop_of.ensures
