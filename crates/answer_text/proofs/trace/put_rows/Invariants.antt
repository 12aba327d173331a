use Rattle.std.proofs.Common.{◌++◌, drop}
use Rattle.answer_text.specs.Gathering.{IsUnderway}
use Rattle.answer_text.specs.Trace.{era_lines}
use Rattle.answer_text.proofs.trace.put_rows.Given as goal

-- the lines from this row on are still to come
abbrev pub invariant-loop-row : goal.invariant-loop-row
invariant-loop-row g l =
    IsUnderway (l.initial.buffer.items ++ era_lines l.rows) l.buffer.items (era_lines (drop l.row-index l.rows)) (g.O.Outputs.told l.initial.outputs) (g.O.Outputs.told l.outputs)
