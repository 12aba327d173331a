use Rattle.std.proofs.Common.{◌≡◌, map, All}
use Rattle.crew.specs.Run.{last_era}
use Rattle.crew.specs.Groups.{list_of, lists_of}
use Rattle.crew.specs.Parties.{PartyDone}
use Rattle.crew.specs.Working.{numbers_of, numbers_at}
use Rattle.crew.proofs.places.finish_all.Given as goal

-- the groups of the places so far are there
abbrev pub invariant-loop-place : goal.invariant-loop-place
invariant-loop-place g l = record {
  groups_done : All (λ group. All (PartyDone l.board l.formula l.settings (last_era l.formula l.settings)) (list_of group)) l.groups.items;
  numbers_kept : map numbers_of (lists_of l.groups.items) ≡ map numbers_at l.yielded;
}
