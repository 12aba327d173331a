use Rattle.std.proofs.lemmas.Result.{err_from_is_err_and}
use Rattle.dp2ll.proofs.ReadingLemmas.{reading_starts, reading_goes_on, turns_bounded, pieces_stop, pieces_end}
use Rattle.dp2ll.proofs.read.read_pieces.Goals as goal

-- nothing was taken yet
pub loop-init : goal.loop-init
loop-init g c = reading_starts c.read_bytes_are_sound.ensures (g.I.Inputs.told c.args.inputs.now) c.args.reader.now c.requires.fresh

-- one piece more
pub loop-preserved : goal.loop-preserved
loop-preserved g c =
    let h = c.loop.invariant in
    reading_goes_on (g.I.Inputs.told c.args.inputs.now) (g.I.Inputs.told c.loop.inputs) (g.I.Inputs.told c.read_piece.new.inputs)
    c.loop.reader c.read_piece.new.reader c.loop.counter h c.in_ok-read_piece.ensures.kept
    (rw c.if-branch.false at c.in_ok-read_piece.ensures.piece h.taken h.read)

-- a refused read refuses the pieces
pub returns-in_err-read_piece-clause-pieces : goal.returns-in_err-read_piece-clause-pieces
returns-in_err-read_piece-clause-pieces g c =
    let h = c.loop.invariant in
    let p = err_from_is_err_and c.from_residual.result c.from_residual.ensures.1 in
    rw (p.1, p.2)
    (pieces_stop (g.I.Inputs.told c.args.inputs.now) (g.I.Inputs.told c.loop.inputs) (g.I.Inputs.told c.read_piece.new.inputs)
    c.loop.reader c.loop.counter c.in_err-read_piece.field-0.0 h (c.in_err-read_piece.ensures.piece h.taken h.read))

-- a read that stops the reading
pub returns-then-branch-clause-pieces : goal.returns-then-branch-clause-pieces
returns-then-branch-clause-pieces g c =
    let h = c.loop.invariant in
    pieces_end (g.I.Inputs.told c.args.inputs.now) (g.I.Inputs.told c.loop.inputs) (g.I.Inputs.told c.read_piece.new.inputs)
    c.loop.reader c.read_piece.new.reader c.loop.counter h
    (rw c.if-branch.true at c.in_ok-read_piece.ensures.piece h.taken h.read)

-- no more turns than a formula may have bytes
pub unreachable-requires : goal.unreachable-requires
unreachable-requires g c =
    turns_bounded c.read_bytes_are_few.ensures (g.I.Inputs.told c.args.inputs.now) (g.I.Inputs.told c.loop.inputs) c.loop.reader c.loop.counter c.loop-test.false
    c.loop.invariant
