use Rattle.std.proofs.Common.{◌≡◌, ℕ, ◌+◌, ◌≤◌, ◌<◌, length, map}
use Rattle.std.specs.Prelude.{slice_get}
use Rattle.crew.specs.Run.{members_at, mails_at}
use Rattle.crew.specs.Turns.{begun}
use Rattle.crew.proofs.era.import_all.Given as goal

-- the cores before this one are in the next era, and the others are as they were
abbrev pub invariant-loop-i : goal.invariant-loop-i
invariant-loop-i l = record {
  same_length : length l.searchers ≡ length l.initial.searchers;
  mails : l.mails.items ≡ mails_at l.formula l.settings l.past;
  done : (j : ℕ) → j < l.i → slice_get l.searchers j ≡ slice_get (map begun (members_at l.formula l.settings (l.past + 1))) j;
  left : (j : ℕ) → l.i ≤ j → slice_get l.searchers j ≡ slice_get l.initial.searchers j;
}
