use Rattle.std.proofs.lemmas.Result.{err_from_is_err_and}
use Rattle.dp2ll.proofs.Judged.{open_at, between_bounded, between_stops, between_finds}
use Rattle.dp2ll.proofs.judge.judge_pieces.Goals as goal

-- a read that stops the judging
pub returns-in_err-finding-clause-judges : goal.returns-in_err-finding-clause-judges
returns-in_err-finding-clause-judges g c cnf fresh =
    let h = c.loop.invariant.between cnf fresh in
    let p = err_from_is_err_and c.from_residual.result c.from_residual.ensures.1 in
    rw (p.1, p.2)
    (between_stops cnf (g.I.Inputs.told c.args.inputs.now) (g.I.Inputs.told c.loop.inputs) (g.I.Inputs.told c.judge_piece.new.inputs)
    c.loop.reader c.loop.checker c.loop.counter c.in_err-finding.field-0.0 h
    (open_at c.read_bytes_are_sound.ensures c.law_judged_lines_are_sound.ensures cnf c.loop.reader c.loop.checker h.taken h.lines h.judging)
    (c.in_err-finding.ensures.piece cnf h.taken h.lines h.judging))

-- a read after which something is found
pub returns-in-Some-clause-judges : goal.returns-in-Some-clause-judges
returns-in-Some-clause-judges g c cnf fresh =
    let h = c.loop.invariant.between cnf fresh in
    between_finds cnf (g.I.Inputs.told c.args.inputs.now) (g.I.Inputs.told c.loop.inputs) (g.I.Inputs.told c.judge_piece.new.inputs)
    c.loop.reader c.loop.checker c.loop.counter c.in-Some.finding h
    (open_at c.read_bytes_are_sound.ensures c.law_judged_lines_are_sound.ensures cnf c.loop.reader c.loop.checker h.taken h.lines h.judging)
    (rw c.in-Some.is at c.in_ok-finding.ensures.piece cnf h.taken h.lines h.judging)

-- no more turns than a proof may have bytes
pub unreachable-requires : goal.unreachable-requires
unreachable-requires g c =
    let fresh = c.requires.fresh in
    between_bounded c.read_bytes_are_few.ensures fresh.cnf (g.I.Inputs.told c.args.inputs.now) (g.I.Inputs.told c.loop.inputs)
    c.loop.reader c.loop.checker c.loop.counter c.loop-test.false (c.loop.invariant.between fresh.cnf fresh.judging)
