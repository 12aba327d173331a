use Rattle.std.proofs.Common.{◌+◌, drop}
use Rattle.std.specs.Prelude.{flat_map}
use Rattle.answer_text.proofs.LitWords.{lit_word}
use Rattle.answer_text.proofs.Passed.{IsUnderway-passed, IsUnderway-stopped, IsUnderway-refused, part_comes}
use Rattle.answer_text.proofs.formula.put_lits.Goals as goal

-- memory ran out at a literal
pub returns-in_err-push_lit : goal.returns-in_err-push_lit
returns-in_err-push_lit g c = IsUnderway-refused _ c.from_residual.result c.from_residual.ensures.1 c.loop-lit.invariant

-- the writing stopped at a literal
pub returns-in_err-make_room : goal.returns-in_err-make_room
returns-in_err-make_room g c =
    let lits = c.args.lits.now in
    let i = c.loop-lit.lit-index in
    IsUnderway-stopped (lit_word c.lit-item.result) (flat_map lit_word (drop (i + 1) lits)) c.push_lit.new.buffer.items c.make_room.new.buffer.items _
    c.from_residual-in_err-make_room.result c.from_residual-in_err-make_room.ensures.1 c.loop-lit.invariant (part_comes lit_word lits c.lit-item.result i c.loop-lit-test.true c.lit-item.is)
    c.in_ok-push_lit.ensures c.in_err-make_room.ensures

-- one more literal went through
pub loop-lit-preserved : goal.loop-lit-preserved
loop-lit-preserved g c =
    let lits = c.args.lits.now in
    let i = c.loop-lit.lit-index in
    IsUnderway-passed (lit_word c.lit-item.result) (flat_map lit_word (drop (i + 1) lits)) c.push_lit.new.buffer.items c.make_room.new.buffer.items
    c.loop-lit.invariant (part_comes lit_word lits c.lit-item.result i c.loop-lit-test.true c.lit-item.is) c.in_ok-push_lit.ensures c.in_ok-make_room.ensures
