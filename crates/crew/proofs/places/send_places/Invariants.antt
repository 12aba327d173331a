use Rattle.std.proofs.Common.{◌≡◌, map}
use Rattle.crew.specs.Parties.{PartyAt, PartySent}
use Rattle.crew.specs.Working.{PlaceAt, numbers_at}
use Rattle.crew.proofs.Working.{Before, From}
use Rattle.crew.proofs.places.send_places.Given as goal

-- the cores at the places before this one have sent their posts of the era, and the others are at its start
abbrev pub invariant-loop-i : goal.invariant-loop-i
invariant-loop-i g l = record {
  sent : Before (PlaceAt l.board l.formula l.settings (PartySent l.board l.formula l.settings l.past)) l.i l.places;
  left : From (PlaceAt l.board l.formula l.settings (PartyAt l.board l.formula l.settings l.past)) l.i l.places;
  numbers_kept : map numbers_at l.places ≡ map numbers_at l.initial.places;
}
