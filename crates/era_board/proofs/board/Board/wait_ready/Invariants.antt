use Rattle.std.specs.Prelude.{◌≡◌, ◌≤◌}
use Rattle.era_board.specs.Boards.{IsPassOf}
use Rattle.era_board.specs.Passes.{account}
use Rattle.era_board.proofs.board.Board.wait_ready.Given as goal

-- so far it has only looked
abbrev pub invariant-loop : goal.invariant-loop
invariant-loop g l =
    (goal.iterator-loop g).can_next l.iterator' × (goal.iterator-loop g).is_finite l.iterator'
    × IsPassOf l.self l.pass
    × ((account l.fn.pass).looks ≤ (account l.pass).looks)
    × (account l.pass ≡ record (account l.fn.pass) { looks = (account l.pass).looks; seen = (account l.pass).seen })
