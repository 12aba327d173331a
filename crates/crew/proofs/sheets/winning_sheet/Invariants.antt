use Rattle.std.proofs.Common.{◌≡◌}
use Rattle.crew.specs.Outcome.{winning_sheet}
use Rattle.crew.proofs.sheets.winning_sheet.Given as goal

-- the winner is among the sheets that are left
abbrev pub invariant-loop-sheet : goal.invariant-loop-sheet
invariant-loop-sheet l = winning_sheet l.sheet-iterator.rest.items ≡ winning_sheet l.fn.sheets.items
