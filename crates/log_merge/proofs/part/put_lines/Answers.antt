use Rattle.std.proofs.Common.{arith}
use Rattle.log_merge.specs.Part.{line_text}
use Rattle.log_merge.proofs.Gathered.{Gathers-more, Gathers-stopped_at}
use Rattle.log_merge.proofs.part.put_lines.Goals as goal

-- one more line is gathered
pub loop-lemma-preserved : goal.loop-lemma-preserved
loop-lemma-preserved g c =
    Gathers-more (line_text c.args.numbers.now) c.args.lemmas.now c.loop-lemma.lemma-index c.lemma-item.result (omega arith) c.lemma-item.is c.loop-lemma.invariant c.in_ok-put_line.ensures

-- the gathering stopped at a line
pub returns-in_err-put_line : goal.returns-in_err-put_line
returns-in_err-put_line g c =
    Gathers-stopped_at (line_text c.args.numbers.now) c.args.lemmas.now c.loop-lemma.lemma-index c.lemma-item.result _ c.from_residual.result (omega arith) c.lemma-item.is
    c.from_residual.ensures.1 c.loop-lemma.invariant c.in_err-put_line.ensures
