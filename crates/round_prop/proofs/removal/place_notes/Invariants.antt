use Rattle.std.proofs.Common.{◌≡◌, ◌++◌, take, drop}
use Rattle.std.specs.Prelude.{map}
use Rattle.round_prop.specs.Removal.{placed}
use Rattle.round_prop.proofs.removal.place_notes.Given as goal

-- the notes so far have their rows
abbrev pub invariant-loop-at : goal.invariant-loop-at
invariant-loop-at l = l.notes ≡ map (placed l.rows l.count) (take l.at l.fn.notes) ++ drop l.at l.fn.notes
