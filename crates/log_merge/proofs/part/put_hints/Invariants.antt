use Rattle.std.proofs.Common.{take}
use Rattle.log_merge.specs.Part.{hints_text}
use Rattle.log_merge.specs.Writing.{Gathers}
use Rattle.log_merge.proofs.Gathered.{fine}
use Rattle.log_merge.proofs.part.put_hints.Given as goal

-- the hints so far are gathered
abbrev pub invariant-loop-hint : goal.invariant-loop-hint
invariant-loop-hint g l =
    Gathers (hints_text l.numbers (take l.hint-index l.hints)) l.initial.buffer.items l.buffer.items (g.O.Outputs.told l.initial.outputs) (g.O.Outputs.told l.outputs) fine
