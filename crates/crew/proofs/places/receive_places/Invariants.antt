use Rattle.std.proofs.Common.{◌≡◌, map}
use Rattle.crew.specs.Parties.{PartySent}
use Rattle.crew.specs.Working.{PlaceAt, numbers_at}
use Rattle.crew.proofs.Working.{From}
use Rattle.crew.proofs.Serving.{HaveReceived}
use Rattle.crew.proofs.places.receive_places.Given as goal

-- the cores at the places before this one have received the posts of the era, and the others have sent theirs
abbrev pub invariant-loop-i : goal.invariant-loop-i
invariant-loop-i g l = record {
  received : HaveReceived l.board l.formula l.settings l.past l.i l.places l.came;
  left : From (PlaceAt l.board l.formula l.settings (PartySent l.board l.formula l.settings l.past)) l.i l.places;
  numbers_kept : map numbers_at l.places ≡ map numbers_at l.initial.places;
}
