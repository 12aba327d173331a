use Rattle.std.proofs.Common.{◌≡◌, ◌∙◌, ap, ◌++◌, ◌+◌, ◌*◌, arith}
use Rattle.lit_base.proofs.ValueLines.{line_parts, ending_of, ending_last, ending_more, parts_added}
use Rattle.answer_text.proofs.values.push_line.Goals as goal
use Rattle.answer_text.proofs.values.push_line.Goals.{then-end-start, else-end-start}

-- the line is `v`, its words and its ending
pub returns : goal.returns
returns c =
    let start = 16 * c.args.line in
    let end = c.min-end.result in
    let ends : c.if-end-start.ending.now ≡ ending_of end (start + 16) =
    elim c.if-end-start.branch [
      | then-end-start w ↦ ending_last end (start + 16) _ (omega arith) (ap (λ r. r.now) w.ending-is ∙ w.as_slice-ending.ensures)
      | else-end-start w ↦ ending_more end (start + 16) _ (omega arith) (ap (λ r. r.now) w.ending-is ∙ w.as_slice-ending-else-end-start.ensures)
    ] in
    parts_added c.args.buffer.now.items c.push.new.self.items c.push_values.new.buffer.items c.extend_from_slice.new.self.items _ _ _
    c.in_ok-push.ensures.items c.in_ok-push_values.ensures (c.in_ok-extend_from_slice.ensures.items ∙ ap (λ t. c.push_values.new.buffer.items ++ t) ends)
    (line_parts c.args.values.now start end (omega arith) c.min-end.ensures)
