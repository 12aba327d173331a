use Rattle.std.proofs.Common.{◌≡◌, drop}
use Rattle.crew.specs.Era.{mails_in, winning_core}
use Rattle.crew.proofs.sheets.winner_in.Given as goal

-- the winner is among the sheets that are left
abbrev pub invariant-loop-sheet : goal.invariant-loop-sheet
invariant-loop-sheet l = winning_core (mails_in (drop l.sheet-index l.sheets)) ≡ winning_core (mails_in l.sheets)
