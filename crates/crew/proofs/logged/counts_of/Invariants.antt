use Rattle.std.proofs.Common.{◌≡◌, ◌++◌, drop, length, map}
use Rattle.crew.specs.Log.{standing_parts}
use Rattle.crew.proofs.logged.counts_of.Given as goal

-- the counts so far, and those of the sheets that are left
abbrev pub invariant-loop-sheet : goal.invariant-loop-sheet
invariant-loop-sheet l =
    l.counts.items ++ map length (standing_parts l.winner (drop l.sheet-index l.sheets)) ≡ map length (standing_parts l.winner l.sheets)
