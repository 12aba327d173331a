use Rattle.std.proofs.Common.{◌≡◌, vec_len}
use Rattle.lit_base.specs.Named.{lits_at}
use Rattle.lit_base.specs.Held.{clauses_of}
use Rattle.lit_base.specs.Analysis.{Trace}
use Rattle.first_uip.specs.Marks.{IsCounted}
use Rattle.first_uip.specs.Places.{before}
use Rattle.first_uip.specs.Room.{HasSpare, IsSameRoom}
use Rattle.first_uip.specs.Walked.{Traces, IsWalked}
use Rattle.first_uip.proofs.walk.Walk.walk_level.Given as goal

-- the walk has come down to this place
abbrev pub invariant-loop-place : goal.invariant-loop-place
invariant-loop-place l = record {
  flags : vec_len l.self.marks.flags ≡ vec_len l.initial.self.marks.flags;
  places : l.self.places ≡ l.initial.self.places;
  counted : IsCounted l.level (before l.place l.trail.entries) l.self.marks;
  spare : HasSpare l.place l.self;
  room : IsSameRoom l.initial.self l.self;
  walked : (t : Trace) → Traces l.level l.initial.self t → IsWalked (lits_at (clauses_of l.pool.held)) l.level l.place l.trail.entries l.self t;
}
