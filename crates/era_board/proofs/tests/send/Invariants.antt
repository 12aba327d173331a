use Rattle.std.specs.Prelude.{◌≡◌, ◌≢◌, ℕ, ◌+◌, ◌<◌, ◌≤◌, slice_index}
use Rattle.era_board.specs.Boards.{IsPassOf}
use Rattle.era_board.specs.Passes.{account}
use Rattle.era_board.proofs.tests.send.Given as goal

abbrev pub invariant-loop-to : goal.invariant-loop-to
invariant-loop-to l =
    IsPassOf l.board l.pass
    × (account l.pass ≡ record (account l.fn.pass) { laid = (account l.pass).laid })
    × ((j : ℕ) → j < l.to → j ≢ (account l.fn.pass).number → slice_index (account l.pass).laid j ≡ (account l.fn.pass).arrivals + 1)
    × ((j : ℕ) → l.to ≤ j → slice_index (account l.pass).laid j ≡ slice_index (account l.fn.pass).laid j)
