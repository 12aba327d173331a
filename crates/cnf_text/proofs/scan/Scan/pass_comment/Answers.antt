use Rattle.std.proofs.Common.{◌≡◌, ◌+◌, ◌∙◌, ap, sym, not, drop, arith, Err}
use Rattle.std.proofs.lemmas.List.Sums.{prefix_len-le-length}
use Rattle.std.proofs.lemmas.Result.{err_from_is_err_and}
use Rattle.std.specs.List.{position_or_len}
use Rattle.lit_base.specs.Results.{on_ok}
use Rattle.lit_base.specs.Lines.{is_line_feed}
use Rattle.cnf_text.specs.Machine.{end_line, steps}
use Rattle.cnf_text.proofs.Results.{OnFault-weaker}
use Rattle.cnf_text.proofs.Passing.{comment_passed, comment_ended, no_comment_behind}
use Rattle.cnf_text.proofs.scan.Scan.pass_comment.Goals as goal

-- the comment goes on behind these bytes
pub returns-then-len-bytes-clause-reads : goal.returns-then-len-bytes-clause-reads
returns-then-len-bytes-clause-reads c =
    let bytes = c.args.bytes.now in
    let at = sym c.is_commented.ensures ∙ c.if-not-is_commented.false in
    (comment_passed c.args.self.now bytes at ∙ ap (λ n. steps c.args.self.now (drop n bytes)) (sym c.comment_len-len.ensures), omega arith, omega arith)

-- the LF is where the header goes on
pub returns-in_err-end_line-clause-reads : goal.returns-in_err-end_line-clause-reads
returns-in_err-end_line-clause-reads c =
    let bytes = c.args.bytes.now in
    let s = c.args.self.now in
    let at = sym c.is_commented.ensures ∙ c.if-not-is_commented.false in
    let within = prefix_len-le-length (λ b. not (is_line_feed b)) bytes in
    let p = err_from_is_err_and c.from_residual.result c.from_residual.ensures.1 in
    let steps_are = comment_ended s bytes at (omega (arith, c.comment_len-len.ensures, within, c.if-len-bytes.false)) in
    let fault = c.in_err-end_line.field-0.0 in
    rw (p.1, p.2) (
      OnFault-weaker fault (end_line s ≡ Err fault) (steps s bytes ≡ Err fault)
          (λ is. steps_are ∙ ap (λ r. on_ok r (λ t. steps t (drop (position_or_len is_line_feed bytes + 1) bytes))) is) c.in_err-end_line.ensures.judged,
      omega (arith, c.in_err-end_line.ensures.lines, c.comment_len-len.ensures, within, c.if-len-bytes.false),
    )

pub overflow_add-result : goal.overflow_add-result
overflow_add-result c =
    let within = prefix_len-le-length (λ b. not (is_line_feed b)) c.args.bytes.now in
    omega (arith, c.comment_len-len.ensures, within, c.requires)

-- the LF is read
pub returns-clause-reads : goal.returns-clause-reads
returns-clause-reads c =
    let bytes = c.args.bytes.now in
    let s = c.args.self.now in
    let at = sym c.is_commented.ensures ∙ c.if-not-is_commented.false in
    let within = prefix_len-le-length (λ b. not (is_line_feed b)) bytes in
    let steps_are = comment_ended s bytes at (omega (arith, c.comment_len-len.ensures, within, c.if-len-bytes.false)) in (
      steps_are ∙ ap (λ r. on_ok r (λ t. steps t (drop (position_or_len is_line_feed bytes + 1) bytes))) c.in_ok-end_line.ensures.judged
          ∙ ap (λ n. steps c.end_line.new.self (drop (n + 1) bytes)) (sym c.comment_len-len.ensures),
      omega (arith, c.comment_len-len.ensures, within, c.if-len-bytes.false),
      omega (arith, c.in_ok-end_line.ensures.lines),
    )

-- which ends the comment
pub returns-clause-all : goal.returns-clause-all
returns-clause-all c = λ at. absurd (no_comment_behind c.args.self.now c.end_line.new.self c.in_ok-end_line.ensures.judged at)
