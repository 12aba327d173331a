use Rattle.std.specs.Prelude.{◌≡◌, ◌≢◌, ℕ, ◌<◌, ◌≤◌, slice_index}
use Rattle.era_board.specs.Boards.{IsPassOf}
use Rattle.era_board.specs.Passes.{account}
use Rattle.era_board.proofs.tests.receive.Given as goal

abbrev pub invariant-loop-from : goal.invariant-loop-from
invariant-loop-from l =
    IsPassOf l.board l.pass
    × (l.wrong ≤ l.from)
    × (account l.pass ≡ record (account l.fn.pass) { taken = (account l.pass).taken })
    × ((j : ℕ) → j < l.from → j ≢ (account l.fn.pass).number → slice_index (account l.pass).taken j ≡ (account l.fn.pass).arrivals)
    × ((j : ℕ) → l.from ≤ j → slice_index (account l.pass).taken j ≡ slice_index (account l.fn.pass).taken j)
