use Rattle.std.proofs.Common.{◌≡◌, ◌++◌}
use Rattle.crew.specs.Era.{mails_in}
use Rattle.crew.proofs.sheets.mails_in.Given as goal

-- the mails so far, and those of the sheets that are left
abbrev pub invariant-loop-sheet : goal.invariant-loop-sheet
invariant-loop-sheet l = l.mails.items ++ mails_in l.sheet-iterator.rest.items ≡ mails_in l.fn.sheets.items
