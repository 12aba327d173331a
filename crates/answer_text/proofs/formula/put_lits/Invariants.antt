use Rattle.std.proofs.Common.{◌++◌, drop}
use Rattle.std.specs.Prelude.{flat_map}
use Rattle.answer_text.specs.Gathering.{IsUnderway}
use Rattle.answer_text.proofs.LitWords.{lit_word}
use Rattle.answer_text.proofs.formula.put_lits.Given as goal

-- the words from this literal on are still to come
abbrev pub invariant-loop-lit : goal.invariant-loop-lit
invariant-loop-lit g l =
    IsUnderway (l.initial.buffer.items ++ flat_map lit_word l.lits) l.buffer.items (flat_map lit_word (drop l.lit-index l.lits)) (g.O.Outputs.told l.initial.outputs) (g.O.Outputs.told l.outputs)
