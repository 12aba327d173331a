-- What a pass of a board shows.
use Rattle.board_rule.specs.declared.views.Account.{Account}
use Rattle.board_rule.specs.Accounts.{account_of}
use Rattle.era_board.specs.declared.pass.Seated.{Seated}

-- what the party has done
abbrev pub account : {T O : Type 0} → Seated T O → Account O
account pass = account_of pass.seat.me.0
