-- Which passes a board has.
use Rattle.std.specs.Prelude.{◌≡◌}
use Rattle.era_board.specs.declared.board.Board.{Board}
use Rattle.era_board.specs.declared.pass.Seated.{Seated}
use Rattle.era_board.specs.Passes.{account}

-- it is a pass of this board
abbrev pub IsPassOf : {T O : Type 0} → Board T O → Seated T O → Type 0
IsPassOf board pass = (pass.seat.table_id ≡ board.table.shared.table_id) × ((account pass).parties ≡ board.parties)
