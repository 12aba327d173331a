use Rattle.std.proofs.Common.{◌≡◌, ◌+◌, drop, length}
use Rattle.crew.specs.Log.{standing_parts, joined}
use Rattle.crew.proofs.logged.count_standing.Given as goal

-- the lemmas so far, and those of the sheets that are left
abbrev pub invariant-loop-sheet : goal.invariant-loop-sheet
invariant-loop-sheet l =
    l.count + length (joined (standing_parts l.winner (drop l.sheet-index l.sheets))) ≡ length (joined (standing_parts l.winner l.sheets))
