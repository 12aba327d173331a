use Rattle.std.proofs.Common.{take}
use Rattle.log_merge.specs.Part.{part_text}
use Rattle.log_merge.specs.Writing.{Gathers}
use Rattle.log_merge.proofs.Gathered.{fine}
use Rattle.log_merge.proofs.part.put_lines.Given as goal

-- the lines so far are gathered
abbrev pub invariant-loop-lemma : goal.invariant-loop-lemma
invariant-loop-lemma g l =
    Gathers (part_text l.numbers (take l.lemma-index l.lemmas)) l.initial.buffer.items l.buffer.items (g.O.Outputs.told l.initial.outputs) (g.O.Outputs.told l.outputs) fine
