use Rattle.std.proofs.Common.{◌≡◌, drop}
use Rattle.round_prop.specs.Removal.{row_of}
use Rattle.round_prop.proofs.removal.row_of.Given as goal

-- the name is looked for in the rows that are left
abbrev pub invariant-loop-at : goal.invariant-loop-at
invariant-loop-at l = row_of l.name l.at (drop l.at l.rows) ≡ row_of l.name 0 l.rows
