use Rattle.std.proofs.Common.{◌++◌, refl}
use Rattle.answer_text.specs.Answer.{trace_text, verdict_line, model_lines}
use Rattle.answer_text.proofs.Passed.{IsUnderway-started, IsUnderway-pushed, IsUnderway-passed, IsUnderway-stopped, IsUnderway-refused, IsUnderway-last}
use Rattle.answer_text.proofs.answer.put_answer.Goals as goal

-- the writing stopped in the trace
pub returns-in_err-put_trace : goal.returns-in_err-put_trace
returns-in_err-put_trace g c =
    let held = c.args.buffer.now.items in
    let outcome = c.args.outcome.now in
    let trace = trace_text outcome c.args.settings.now c.args.trace in
    let rest = verdict_line outcome.verdict ++ model_lines outcome.verdict outcome.model in
    IsUnderway-stopped trace rest (held ++ trace) c.put_trace.new.buffer.items _ c.from_residual.result c.from_residual.ensures.1
    (IsUnderway-started held (trace ++ rest) (g.O.Outputs.told c.args.outputs.now)) refl refl c.in_err-put_trace.ensures

-- memory ran out at the `s` line
pub returns-in_err-push_text : goal.returns-in_err-push_text
returns-in_err-push_text g c =
    let held = c.args.buffer.now.items in
    let outcome = c.args.outcome.now in
    let trace = trace_text outcome c.args.settings.now c.args.trace in
    let rest = verdict_line outcome.verdict ++ model_lines outcome.verdict outcome.model in
    IsUnderway-refused _ c.from_residual-in_err-push_text.result c.from_residual-in_err-push_text.ensures.1
    (IsUnderway-passed trace rest (held ++ trace) c.put_trace.new.buffer.items
    (IsUnderway-started held (trace ++ rest) (g.O.Outputs.told c.args.outputs.now)) refl refl c.in_ok-put_trace.ensures)

-- the trace, the `s` line and the `v` lines, one after the other
pub returns : goal.returns
returns g c =
    let held = c.args.buffer.now.items in
    let outcome = c.args.outcome.now in
    let trace = trace_text outcome c.args.settings.now c.args.trace in
    let verdict = verdict_line outcome.verdict in
    let model = model_lines outcome.verdict outcome.model in
    let told = IsUnderway-passed trace (verdict ++ model) (held ++ trace) c.put_trace.new.buffer.items
    (IsUnderway-started held (trace ++ (verdict ++ model)) (g.O.Outputs.told c.args.outputs.now)) refl refl c.in_ok-put_trace.ensures in
    let said = IsUnderway-pushed verdict model c.push_text.new.buffer.items told refl (rw c.verdict_line.ensures at c.in_ok-push_text.ensures) in
    IsUnderway-last c.put_model_of.new.buffer.items (g.O.Outputs.told c.put_model_of.new.outputs) c.put_model_of.result said c.put_model_of.ensures
