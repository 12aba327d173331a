use Rattle.std.proofs.Common.{◌≡◌, take}
use Rattle.round_prop.specs.Removal.{numbers_from}
use Rattle.round_prop.proofs.removal.number.Given as goal

-- the numbers so far stand in front
abbrev pub invariant-loop-at : goal.invariant-loop-at
invariant-loop-at l = take l.at l.places ≡ numbers_from 0 l.at
