use Rattle.std.proofs.Common.{◌++◌, refl}
use Rattle.answer_text.specs.Trace.{core_lines, era_lines, winner_line}
use Rattle.answer_text.proofs.Passed.{IsUnderway-begun, IsUnderway-passed, IsUnderway-stopped, IsUnderway-refused}
use Rattle.answer_text.proofs.trace.put_trace.Goals as goal

-- the writing stopped at a row
pub returns-in_err-put_rows : goal.returns-in_err-put_rows
returns-in_err-put_rows g c =
    let cores = core_lines c.args.settings.now in
    let eras = era_lines c.args.outcome.now.trace in
    let winner = winner_line c.args.outcome.now.winner in
    let begun = IsUnderway-begun c.args.buffer.now.items cores (eras ++ winner) c.push_cores.new.buffer.items (g.O.Outputs.told c.args.outputs.now) c.in_ok-push_cores.ensures in
    rw c.if-not-trace.false
    (IsUnderway-stopped eras winner (c.push_cores.new.buffer.items ++ eras) c.put_rows.new.buffer.items _
    c.from_residual-in_err-put_rows.result c.from_residual-in_err-put_rows.ensures.1 begun refl refl (rw c.as_slice.ensures at c.in_err-put_rows.ensures))

-- memory ran out at the winner
pub returns-in_err-push_winner : goal.returns-in_err-push_winner
returns-in_err-push_winner g c =
    let cores = core_lines c.args.settings.now in
    let eras = era_lines c.args.outcome.now.trace in
    let winner = winner_line c.args.outcome.now.winner in
    let begun = IsUnderway-begun c.args.buffer.now.items cores (eras ++ winner) c.push_cores.new.buffer.items (g.O.Outputs.told c.args.outputs.now) c.in_ok-push_cores.ensures in
    let told = IsUnderway-passed eras winner (c.push_cores.new.buffer.items ++ eras) c.put_rows.new.buffer.items begun refl refl (rw c.as_slice.ensures at c.in_ok-put_rows.ensures) in
    rw c.if-not-trace.false
    (IsUnderway-refused _ c.from_residual-in_err-push_winner.result c.from_residual-in_err-push_winner.ensures.1 told)
