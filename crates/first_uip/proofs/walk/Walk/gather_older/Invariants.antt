use Rattle.std.proofs.Common.{◌≡◌, List, take}
use Rattle.std.specs.Prelude.{Option}
use Rattle.lit_base.specs.Literal.{Literal}
use Rattle.lit_base.specs.Analysis.{Trace}
use Rattle.lit_base.specs.declared.trail.Entry.{Entry}
use Rattle.lit_base.specs.declared.name.Name.{Name}
use Rattle.first_uip.specs.Places.{AreAt}
use Rattle.first_uip.specs.Room.{HasSpare, IsSameRoom}
use Rattle.first_uip.specs.Walked.{IsGathered}
use Rattle.first_uip.proofs.Gathered.{IsOnWay}
use Rattle.first_uip.proofs.walk.Walk.gather_older.Given as goal

-- the entries at the places from this index on were met
abbrev pub invariant-loop-index : goal.invariant-loop-index
invariant-loop-index l = record {
  marks : l.self.marks ≡ l.initial.self.marks;
  places : l.self.places ≡ l.initial.self.places;
  spare : HasSpare l.index l.self;
  room : IsSameRoom l.initial.self l.self;
  gathered : (look : Name → Option (List Literal)) (entries : List Entry) (t : Trace) → AreAt l.trail.entries l.initial.self.places.items entries → IsGathered l.level l.initial.self t →
      IsOnWay look l.trail.entries l.level (take l.index l.initial.self.places.items) l.self entries t;
}
