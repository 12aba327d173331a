use Rattle.std.proofs.Common.{◌≡◌, [], length, All}
use Rattle.crew.specs.Groups.{lists_of}
use Rattle.crew.proofs.dealing.empty_groups.Given as goal

abbrev pub invariant-loop : goal.invariant-loop
invariant-loop g l = record {
  count : length l.groups.items ≡ l.counter;
  empty : All (λ group. group ≡ []) (lists_of l.groups.items);
}
