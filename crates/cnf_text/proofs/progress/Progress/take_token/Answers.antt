use Rattle.std.proofs.Common.{sym, ap, ◌∙◌}
use Rattle.cnf_text.specs.Judge.{judge_at}
use Rattle.cnf_text.proofs.Results.{judges_same}
use Rattle.cnf_text.proofs.Capped.{token_judged}
use Rattle.cnf_text.proofs.progress.Progress.take_token.Goals as goal

-- the class that was taken is the token's, but for a value above every limit
pub returns : goal.returns
returns c =
    judges_same c.take.result c.take.new.self _ _
    (token_judged c.args.self.now c.args.token.now c.args.line c.take.ensures.few (sym c.if-is_empty.ensures)
    ∙ ap (λ k. judge_at c.args.self.now.stage c.args.self.now k c.args.line) (sym c.class_of.ensures)) c.take.ensures.judged
