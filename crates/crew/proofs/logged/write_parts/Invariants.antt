use Rattle.std.proofs.Common.{take}
use Rattle.log_merge.specs.Part.{part_text}
use Rattle.log_merge.specs.Writing.{WritesPart}
use Rattle.crew.specs.Log.{standing_parts, joined}
use Rattle.crew.proofs.Writings.{fine}
use Rattle.crew.proofs.logged.write_parts.Given as goal

-- the parts so far are written
abbrev pub invariant-loop-sheet : goal.invariant-loop-sheet
invariant-loop-sheet g l =
    WritesPart (part_text l.numbers (joined (standing_parts l.winner (take l.sheet-index l.sheets)))) (g.O.Outputs.told l.initial.outputs) (g.O.Outputs.told l.outputs) fine
