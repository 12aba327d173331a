use Rattle.std.proofs.Common.{◌++◌, [], append-nil, refl, sym}
use Rattle.std.specs.Prelude.{codes, flat_map}
use Rattle.answer_text.proofs.LitWords.{lit_word}
use Rattle.answer_text.proofs.Passed.{IsUnderway-started, IsUnderway-pushed, IsUnderway-passed, IsUnderway-stopped, IsUnderway-refused}
use Rattle.answer_text.proofs.formula.put_clause.Goals as goal

-- the writing stopped in the literals
pub returns-in_err-put_lits : goal.returns-in_err-put_lits
returns-in_err-put_lits g c =
    let held = c.args.buffer.now.items in
    let words = flat_map lit_word c.args.lits.now in
    IsUnderway-stopped words (codes "0\n") (held ++ words) c.put_lits.new.buffer.items _ c.from_residual.result c.from_residual.ensures.1
    (IsUnderway-started held (words ++ codes "0\n") (g.O.Outputs.told c.args.outputs.now)) refl refl c.in_err-put_lits.ensures

-- memory ran out at the end of the line
pub returns-in_err-push_text : goal.returns-in_err-push_text
returns-in_err-push_text g c =
    let held = c.args.buffer.now.items in
    let words = flat_map lit_word c.args.lits.now in
    IsUnderway-refused _ c.from_residual-in_err-push_text.result c.from_residual-in_err-push_text.ensures.1
    (IsUnderway-passed words (codes "0\n") (held ++ words) c.put_lits.new.buffer.items
    (IsUnderway-started held (words ++ codes "0\n") (g.O.Outputs.told c.args.outputs.now)) refl refl c.in_ok-put_lits.ensures)

-- the literals, and the end of the line
pub returns : goal.returns
returns g c =
    let held = c.args.buffer.now.items in
    let words = flat_map lit_word c.args.lits.now in
    let told = IsUnderway-passed words (codes "0\n") (held ++ words) c.put_lits.new.buffer.items
    (IsUnderway-started held (words ++ codes "0\n") (g.O.Outputs.told c.args.outputs.now)) refl refl c.in_ok-put_lits.ensures in
    IsUnderway-pushed (codes "0\n") [] c.push_text.new.buffer.items told (sym (append-nil (codes "0\n"))) c.in_ok-push_text.ensures
