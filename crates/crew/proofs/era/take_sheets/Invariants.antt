use Rattle.std.proofs.Common.{◌≡◌, ℕ, ◌≤◌, ◌<◌, length, map, take}
use Rattle.std.specs.Prelude.{slice_get}
use Rattle.crew.specs.Run.{members_at, sheets_at}
use Rattle.crew.specs.Turns.{at_rest}
use Rattle.crew.proofs.era.take_sheets.Given as goal

-- the cores before this one have given their sheets, and the others are as they were
abbrev pub invariant-loop-i : goal.invariant-loop-i
invariant-loop-i l = record {
  same_length : length l.searchers ≡ length l.initial.searchers;
  sheets : l.sheets.items ≡ take l.i (sheets_at l.formula l.settings l.past);
  done : (j : ℕ) → j < l.i → slice_get l.searchers j ≡ slice_get (map at_rest (members_at l.formula l.settings l.past)) j;
  left : (j : ℕ) → l.i ≤ j → slice_get l.searchers j ≡ slice_get l.initial.searchers j;
}
