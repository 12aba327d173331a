use Rattle.std.specs.Prelude.{◌≡◌, ◌*◌, ◌≤◌}
use Rattle.era_board.specs.Boards.{IsPassOf}
use Rattle.era_board.specs.Passes.{account}
use Rattle.era_board.specs.Periods.{IsAtRest}
use Rattle.era_board.proofs.tests.serve.Given as goal

abbrev pub invariant-loop-period : goal.invariant-loop-period
invariant-loop-period g l =
    IsPassOf l.board l.pass × IsAtRest (account l.pass) × ((account l.pass).arrivals ≡ l.period) × (l.wrong ≤ 33 * l.period)
