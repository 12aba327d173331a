use Rattle.std.proofs.Common.{◌≡◌, ◌++◌, length}
use Rattle.crew.specs.Groups.{AreDealt, lists_of}
use Rattle.crew.proofs.dealing.gather.Given as goal

-- what was dealt is the items gathered so far and those that are still dealt
abbrev pub invariant-loop-place : goal.invariant-loop-place
invariant-loop-place g l = record {
  same_length : length l.groups ≡ length l.initial.groups;
  dealt : (dealt : _) → length dealt ≡ l.total → AreDealt 0 dealt (lists_of l.initial.groups) →
      (later : _) × (l.items.items ++ later ≡ dealt) × (length l.items.items ≡ l.place) × AreDealt l.place later (lists_of l.groups);
}
