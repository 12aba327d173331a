use Rattle.std.proofs.Common.{◌≡◌, ◌-◌, ◌++◌, take, drop}
use Rattle.lit_base.specs.Text.{value_words, spaced}
use Rattle.answer_text.proofs.values.push_values.Given as goal

-- the text so far and the words to come are the whole
abbrev pub invariant-loop-index : goal.invariant-loop-index
invariant-loop-index l =
    l.buffer.items ++ spaced (take (l.end - l.index) (drop l.index (value_words 1 l.values)))
    ≡ l.fn.buffer.items ++ spaced (take (l.end - l.start) (drop l.start (value_words 1 l.values)))
