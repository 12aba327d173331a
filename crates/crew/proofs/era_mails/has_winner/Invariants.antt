use Rattle.std.proofs.Common.{◌≡◌, drop}
use Rattle.std.specs.Prelude.{is_some}
use Rattle.crew.specs.Era.{winner_of}
use Rattle.crew.proofs.era_mails.has_winner.Given as goal

-- the winner is among the mails that are left
abbrev pub invariant-loop-mail : goal.invariant-loop-mail
invariant-loop-mail l = is_some (winner_of (drop l.mail-index l.mails)) ≡ is_some (winner_of l.mails)
