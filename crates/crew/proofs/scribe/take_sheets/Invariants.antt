use Rattle.std.specs.Prelude.{◌≡◌, ℕ, ◌+◌, ◌<◌, ◌≤◌, true, slice_index, take}
use Rattle.era_board.specs.Passes.{account}
use Rattle.crew.specs.Run.{sheets_at}
use Rattle.crew.specs.Parties.{IsPassIn}
use Rattle.crew.proofs.scribe.take_sheets.Given as goal

-- the sheets of the cores before this one are taken, and the others' are to be
abbrev pub invariant-loop-from : goal.invariant-loop-from
invariant-loop-from l =
    IsPassIn l.board l.formula l.settings l.pass
    × (account l.pass ≡ record (account l.fn.pass) { taken = (account l.pass).taken })
    × ((j : ℕ) → j < l.from → slice_index (account l.pass).taken j ≡ l.past + 1)
    × ((j : ℕ) → l.from ≤ j → slice_index (account l.pass).taken j ≡ slice_index (account l.fn.pass).taken j)
    × (l.fine ≡ true → l.sheets.items ≡ take l.from (sheets_at l.formula l.settings l.past))
