use Rattle.std.proofs.Common.{◌≡◌, ℕ, ◌+◌, ◌<◌, List, ◌++◌, length, get_or, drop}
use Rattle.std.proofs.lemmas.List.{get_or_default}
use Rattle.crew.specs.declared.trace.TraceRow.{TraceRow}
use Rattle.answer_text.specs.Trace.{era_line, era_lines}
use Rattle.answer_text.proofs.Passed.{IsUnderway-passed, IsUnderway-stopped, IsUnderway-refused, part_comes}
use Rattle.answer_text.proofs.trace.put_rows.Goals as goal

-- what stands for a row past the end
abbrev no_row : TraceRow
no_row = record { period = 0; core = 0; conflicts = 0; volume = 0; posted = 0; next = 0 }

-- the first of the lines from this row on
row_comes : (rows : List TraceRow) (i : ℕ) → i < length rows → era_lines (drop i rows) ≡ era_line (get_or rows i no_row) ++ era_lines (drop (i + 1) rows)
row_comes rows i below = part_comes era_line rows (get_or rows i no_row) i below (get_or_default rows i no_row (get_or rows i no_row) below)

-- memory ran out at a row
pub returns-in_err-push_row : goal.returns-in_err-push_row
returns-in_err-push_row g c = IsUnderway-refused _ c.from_residual.result c.from_residual.ensures.1 c.loop-row.invariant

-- the writing stopped at a row
pub returns-in_err-make_room : goal.returns-in_err-make_room
returns-in_err-make_room g c =
    let rows = c.args.rows.now in
    let i = c.loop-row.row-index in
    IsUnderway-stopped (era_line (get_or rows i no_row)) (era_lines (drop (i + 1) rows)) c.push_row.new.buffer.items c.make_room.new.buffer.items _
    c.from_residual-in_err-make_room.result c.from_residual-in_err-make_room.ensures.1 c.loop-row.invariant (row_comes rows i c.loop-row-test.true)
    c.in_ok-push_row.ensures c.in_err-make_room.ensures

-- one more row went through
pub loop-row-preserved : goal.loop-row-preserved
loop-row-preserved g c =
    let rows = c.args.rows.now in
    let i = c.loop-row.row-index in
    IsUnderway-passed (era_line (get_or rows i no_row)) (era_lines (drop (i + 1) rows)) c.push_row.new.buffer.items c.make_room.new.buffer.items
    c.loop-row.invariant (row_comes rows i c.loop-row-test.true) c.in_ok-push_row.ensures c.in_ok-make_room.ensures
