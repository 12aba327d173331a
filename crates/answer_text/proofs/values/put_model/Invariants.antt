use Rattle.std.proofs.Common.{◌-◌, ◌*◌, ◌++◌, drop}
use Rattle.std.specs.Prelude.{flat_map}
use Rattle.std.specs.Simd.{first_chunks}
use Rattle.lit_base.specs.Text.{value_words, value_line, values_text}
use Rattle.answer_text.specs.Gathering.{IsUnderway}
use Rattle.answer_text.proofs.values.put_model.Given as goal

-- the lines from this one on are still to come
abbrev pub invariant-loop-line : goal.invariant-loop-line
invariant-loop-line g l =
    IsUnderway (l.initial.buffer.items ++ values_text l.values) l.buffer.items
    (flat_map value_line (first_chunks 16 (l.lines - l.line) (drop (16 * l.line) (value_words 1 l.values))))
    (g.O.Outputs.told l.initial.outputs) (g.O.Outputs.told l.outputs)
