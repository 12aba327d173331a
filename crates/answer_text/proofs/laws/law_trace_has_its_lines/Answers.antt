use Rattle.std.proofs.Common.{◌++◌, ◌∙◌, arith}
use Rattle.answer_text.specs.Trace.{core_lines, era_lines, winner_line}
use Rattle.answer_text.proofs.LineCounts.{line_count-append, cores_are_lines, rows_are_lines, winner_is_a_line}
use Rattle.answer_text.proofs.laws.law_trace_has_its_lines.Goals as goal

-- the lines of the three parts
pub returns : goal.returns
returns c = λ outcome settings range fits.
    let cores = cores_are_lines settings (omega (arith, range.few_cores)) in
    let rows = rows_are_lines outcome.trace fits.rows in
    let winner = winner_is_a_line outcome.winner fits.winner in
    let behind = line_count-append (era_lines outcome.trace) (winner_line outcome.winner) in
    line_count-append (core_lines settings) (era_lines outcome.trace ++ winner_line outcome.winner) ∙ omega arith
