use Rattle.std.proofs.Common.{◌≡◌, ℕ, ◌≤◌, ◌<◌, length}
use Rattle.std.specs.Prelude.{Some, slice_get}
use Rattle.crew.specs.declared.searcher.Searcher.{Searcher}
use Rattle.crew.specs.Turns.{HasWorked}
use Rattle.crew.proofs.era.stretch_all.Given as goal

-- the cores before this one have made their stretch, and the others are as they were
abbrev pub invariant-loop-i : goal.invariant-loop-i
invariant-loop-i g l = record {
  same_length : length l.searchers ≡ length l.initial.searchers;
  done : (j : ℕ) (x y : Searcher) → j < l.i → slice_get l.initial.searchers j ≡ Some x → slice_get l.searchers j ≡ Some y → HasWorked x y;
  left : (j : ℕ) → l.i ≤ j → slice_get l.searchers j ≡ slice_get l.initial.searchers j;
}
