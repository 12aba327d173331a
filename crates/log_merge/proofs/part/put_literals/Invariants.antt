use Rattle.std.proofs.Common.{take}
use Rattle.log_merge.specs.Part.{literals_text}
use Rattle.log_merge.specs.Writing.{Gathers}
use Rattle.log_merge.proofs.Gathered.{fine}
use Rattle.log_merge.proofs.part.put_literals.Given as goal

-- the literals so far are gathered
abbrev pub invariant-loop-lit : goal.invariant-loop-lit
invariant-loop-lit g l =
    Gathers (literals_text (take l.lit-index l.lits)) l.initial.buffer.items l.buffer.items (g.O.Outputs.told l.initial.outputs) (g.O.Outputs.told l.outputs) fine
