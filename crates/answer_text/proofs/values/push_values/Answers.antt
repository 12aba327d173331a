use Rattle.std.proofs.Common.{◌∙◌, arith}
use Rattle.lit_base.proofs.ValueLines.{words_step}
use Rattle.answer_text.proofs.values.push_values.Goals as goal

-- one more word is written
pub loop-index-preserved : goal.loop-index-preserved
loop-index-preserved c =
    words_step c.args.values.now c.loop-index.index c.args.end _ c.loop-index.buffer.items c.push_value.new.buffer.items (omega arith) (omega arith) c.in_ok-push_value.ensures
    ∙ c.loop-index.invariant
