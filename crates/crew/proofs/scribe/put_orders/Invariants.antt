use Rattle.std.specs.Prelude.{◌≡◌, ℕ, ◌+◌, ◌<◌, ◌≤◌, slice_index}
use Rattle.era_board.specs.Passes.{account}
use Rattle.crew.specs.Parties.{IsPassIn}
use Rattle.crew.proofs.scribe.put_orders.Given as goal

-- the cores before this one are told, and the others are to be
abbrev pub invariant-loop-to : goal.invariant-loop-to
invariant-loop-to l =
    IsPassIn l.board l.formula l.settings l.pass
    × (account l.pass ≡ record (account l.fn.pass) { laid = (account l.pass).laid })
    × ((j : ℕ) → j < l.to → slice_index (account l.pass).laid j ≡ l.past + 1)
    × ((j : ℕ) → l.to ≤ j → slice_index (account l.pass).laid j ≡ slice_index (account l.fn.pass).laid j)
