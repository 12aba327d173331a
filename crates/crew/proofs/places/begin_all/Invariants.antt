use Rattle.std.proofs.Common.{◌≡◌, map, All}
use Rattle.crew.specs.Groups.{lists_of}
use Rattle.crew.specs.Parties.{PartyAt}
use Rattle.crew.specs.Working.{PlaceAt, numbers_of, numbers_at}
use Rattle.crew.proofs.places.begin_all.Given as goal

-- a worker is started for each group so far
abbrev pub invariant-loop-group : goal.invariant-loop-group
invariant-loop-group g l = record {
  places : All (PlaceAt l.board l.formula l.settings (PartyAt l.board l.formula l.settings 0)) l.places.items;
  numbers_kept : map numbers_at l.places.items ≡ map numbers_of (lists_of l.yielded);
}
