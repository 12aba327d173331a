use Rattle.std.proofs.Common.{◌≡◌, ◌++◌, length}
use Rattle.crew.specs.Groups.{AreDealt, lists_of}
use Rattle.crew.proofs.dealing.deal.Given as goal

-- the items that are no longer in the list are dealt
abbrev pub invariant-loop-item : goal.invariant-loop-item
invariant-loop-item g l = record {
  count : length l.groups.items ≡ l.count;
  dealt : (later : _) × (l.items.items ++ later ≡ l.initial.items.items) × AreDealt (length l.items.items) later (lists_of l.groups.items);
}

abbrev pub decreases-loop-item : goal.decreases-loop-item
decreases-loop-item g l = goal.left-loop-item g l
