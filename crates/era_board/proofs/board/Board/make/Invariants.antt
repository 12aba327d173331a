use Rattle.std.specs.Prelude.{◌≡◌, ℕ, [], Some, slice_get, vec_len}
use Rattle.board_rule.specs.Accounts.{maker_view, fresh}
use Rattle.era_board.specs.Passes.{account}
use Rattle.era_board.proofs.board.Board.make.Given as goal

abbrev pub invariant-loop-number : goal.invariant-loop-number
invariant-loop-number g l =
    (l.maker.table_id ≡ l.table.shared.table_id)
    × (l.maker.me ≡ (maker_view l.occasion l.parties l.number, []))
    × (vec_len l.passes ≡ l.number)
    × ((i : ℕ) (p : _) → slice_get l.passes.items i ≡ Some p → (p.seat.table_id ≡ l.table.shared.table_id) × (account p ≡ fresh l.occasion l.parties i))
