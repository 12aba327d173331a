use Rattle.std.proofs.Common.{arith, length-take}
use Rattle.desk_io.specs.declared.Slot.TheVariants.{Proof}
use Rattle.dp2ll.proofs.ReadingLemmas.{piece_taken}
use Rattle.dp2ll.proofs.Judged.{piece_judged}
use Rattle.dp2ll.proofs.judge.judge_piece.Goals as goal

-- the lines of the piece were judged
pub returns-clause-piece : goal.returns-clause-piece
returns-clause-piece g c = λ cnf taken lines judging.
    piece_judged cnf ((g.I.Inputs.told c.args.inputs.now).at Proof) ((g.I.Inputs.told c.read.new.self).at Proof) c.judge_text.new.reader
    c.judge_text.new.checker taken c.judge_text.result
    (piece_taken _ _ c.read.new.buf _ c.in-Ok.count c.in-Ok.ensures.left (omega (arith, c.read.auto.buf)) (grind arith))
    (grind (arith, length-take c.in-Ok.count c.read.new.buf)) (c.judge_text.ensures cnf taken lines judging)
