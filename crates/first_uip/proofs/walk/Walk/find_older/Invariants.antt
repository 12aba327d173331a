use Rattle.std.proofs.Common.{◌≡◌, ℕ, ◌==◌, ◌≤◌, true, ◌||◌, take, count_by, sum_by, vec_len}
use Rattle.lit_base.specs.Named.{lits_at}
use Rattle.lit_base.specs.Held.{clauses_of}
use Rattle.lit_base.specs.Analysis.{Trace, is_marked, trace}
use Rattle.trail_book.specs.TrailState.{place_of}
use Rattle.first_uip.specs.Marks.{is_flagged, AreFlagsOf, IsCounted, one_if}
use Rattle.first_uip.specs.Places.{before}
use Rattle.first_uip.specs.Room.{IsSameRoom, IsSameGathered}
use Rattle.first_uip.proofs.Found.{is_reached}
use Rattle.first_uip.proofs.walk.Walk.find_older.Given as goal

-- the variables before this index were looked up, and what the reasons of those of level 0 have is marked
abbrev pub invariant-loop-index : goal.invariant-loop-index
invariant-loop-index l = record {
  flags : vec_len l.self.marks.flags ≡ vec_len l.initial.self.marks.flags;
  counted : IsCounted l.level (before l.place l.trail.entries) l.self.marks;
  reached : (v : ℕ) → is_flagged l.self.marks.flags.items v ≡
      (is_reached (lits_at (clauses_of l.pool.held)) (before l.place l.trail.entries) (take l.index l.self.marks.marked.items) v || is_flagged l.initial.self.marks.flags.items v);
  sound : (t : Trace) → AreFlagsOf t.marked l.initial.self.marks.flags.items → (v : ℕ) → is_flagged l.self.marks.flags.items v ≡ true →
      is_marked (trace (lits_at (clauses_of l.pool.held)) l.level (before l.place l.trail.entries) t).marked v ≡ true;
  places : (p : ℕ) → count_by (λ at. at == p) l.self.places.items ≡
      sum_by (λ v. one_if (λ at. at == p) (place_of (before l.place l.trail.entries) v)) (take l.index l.self.marks.marked.items);
  few : vec_len l.self.places ≤ l.index;
  room : IsSameRoom l.initial.self l.self;
  gathered : IsSameGathered l.initial.self l.self;
}
