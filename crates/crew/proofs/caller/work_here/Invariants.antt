use Rattle.std.proofs.Common.{◌≡◌, map, All}
use Rattle.crew.specs.Run.{HasEra}
use Rattle.crew.specs.Parties.{PartyAt}
use Rattle.crew.specs.Scribing.{ScribeAt, LogStands}
use Rattle.crew.specs.Working.{PlaceAt, numbers_at}
use Rattle.crew.proofs.caller.work_here.Given as goal

-- the cores here and the scribe are at the start of the era, and the log of the eras past is written
abbrev pub invariant-loop-past : goal.invariant-loop-past
invariant-loop-past g l = record {
  has : HasEra l.formula l.settings l.past;
  places_begun : All (PlaceAt l.board l.formula l.settings (PartyAt l.board l.formula l.settings l.past)) l.places.items;
  scribing : ScribeAt l.board l.formula l.settings l.log l.past l.scribe;
  numbers_kept : map numbers_at l.places.items ≡ map numbers_at l.initial.places.items;
  stands : LogStands l.log l.formula l.settings l.past (g.O.Outputs.told l.initial.outputs) (g.O.Outputs.told l.outputs) l.scribe.stop;
}
