use Rattle.std.proofs.Common.{◌≡◌, ◌++◌, drop, map}
use Rattle.crew.specs.Era.{mails_in}
use Rattle.crew.specs.Trace.{row_of, rows_of}
use Rattle.crew.proofs.trace.add_rows.Given as goal

-- the rows so far, and those of the sheets that are left
abbrev pub invariant-loop-sheet : goal.invariant-loop-sheet
invariant-loop-sheet l =
    l.trace ++ map (row_of l.base (mails_in l.sheets)) (mails_in (drop l.sheet-index l.sheets)) ≡ l.initial.trace ++ rows_of l.base (mails_in l.sheets)
