use Rattle.std.proofs.Common.{◌≡◌, drop}
use Rattle.std.specs.Prelude.{max}
use Rattle.crew.specs.Era.{mails_in, largest_volume}
use Rattle.crew.proofs.sheets.largest_volume.Given as goal

-- the largest so far, and that of the sheets that are left
abbrev pub invariant-loop-sheet : goal.invariant-loop-sheet
invariant-loop-sheet l = max l.largest (largest_volume (mails_in (drop l.sheet-index l.sheets))) ≡ largest_volume (mails_in l.sheets)
