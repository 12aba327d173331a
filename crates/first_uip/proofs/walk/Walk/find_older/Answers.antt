use Rattle.std.proofs.Common.{◌≡◌, ◌==◌, ◌<◌, length, get_or, count_by, vec_len, ap, ◌∙◌, sym, refl, arith, rules}
use Rattle.lit_base.specs.Named.{lits_at}
use Rattle.lit_base.specs.Held.{clauses_of}
use Rattle.first_uip.specs.Marks.{one_if}
use Rattle.first_uip.specs.Places.{before}
use Rattle.trail_book.specs.TrailState.{place_of}
use Rattle.first_uip.proofs.Found.{reached_more, counts_more, sound_more, flags_found, places_found}
use Rattle.first_uip.proofs.Listed.{listed_few}
use Rattle.first_uip.proofs.Marking.{trace_keeps}
use Rattle.first_uip.proofs.Gathered.{room_same, same_gathered}
use Rattle.first_uip.proofs.Standing.{fits_before}
use Rattle.first_uip.proofs.walk.Walk.find_older.Goals as goal

pub loop-index-preserved : goal.loop-index-preserved
loop-index-preserved c =
    let look = lits_at (clauses_of c.args.pool.now.held) in
    let entries = c.args.trail.now.entries in
    let rest = before c.args.place entries in
    let index = c.loop-index.index in
    let start = c.args.self.now.marks in
    let was = c.loop-index.self.marks in
    let after = c.find.new.self.marks in
    let now = c.loop-index.invariant in
    let fitting = fits_before look c.args.place c.args.trail.now c.requires.trail c.requires.fits in
    let var = c.index-var.result.now in
    let long : vec_len was.marked ≡ length was.marked.items = search rules in
    let below : index < length was.marked.items = omega (arith, long, c.if-index-len.false, c.len.ensures) in
    let at : var ≡ get_or was.marked.items index var = c.index-var.ensures in
    record {
      flags = c.find.ensures.flags ∙ now.flags;
      counted = c.find.ensures.counted;
      reached = reached_more look rest was.marked.items after.marked.items index var start.flags.items was.flags.items after.flags.items below at c.find.ensures.kept c.find.ensures.marks now.reached;
      sound = λ t are. sound_more look c.args.level rest was.marked.items index var was.flags.items after.flags.items t fitting below at now.counted.listed.flags c.find.ensures.marks (now.sound t are);
      places = λ p. counts_more (λ v. one_if (λ at. at == p) (place_of rest v)) was.marked.items after.marked.items index var _ _ below at c.find.ensures.kept (c.find.ensures.places p) (now.places p);
      few = omega (arith, now.few, c.find.ensures.few);
      room = room_same c.args.self.now c.loop-index.self c.find.new.self now.room c.find.ensures.room;
      gathered = same_gathered c.args.self.now c.loop-index.self c.find.new.self now.gathered c.find.ensures.gathered;
    }

-- at first none was met
pub loop-index-init : goal.loop-index-init
loop-index-init c = record {
  flags = refl;
  counted = c.requires.counted;
  reached = λ v. refl;
  sound = λ t are v is. trace_keeps (lits_at (clauses_of c.args.pool.now.held)) c.args.level (before c.args.place c.args.trail.now.entries) t v (sym (are v) ∙ is);
  places = λ p. ap (count_by (λ at. at == p)) c.requires.empty.1;
  few = let none = c.requires.empty.0 in omega arith;
  room = record { lits = refl; hints = refl; touched = refl; places = refl };
  gathered = record { lits = refl; hints = refl; back = refl; touched = refl };
}

-- in the end all were: where the list ends, and where each flag would have been passed
pub returns-then-index-len-clause-marks : goal.returns-then-index-len-clause-marks
returns-then-index-len-clause-marks c = λ t are.
    let look = lits_at (clauses_of c.args.pool.now.held) in
    let now = c.loop-index.invariant in
    let marks = c.loop-index.self.marks in
    let long : vec_len marks.marked ≡ length marks.marked.items = search rules in
    flags_found look c.args.level (before c.args.place c.args.trail.now.entries) c.loop-index.index c.args.self.now.marks marks t
    (fits_before look c.args.place c.args.trail.now c.requires.trail c.requires.fits) c.requires.counted c.requires.none_left (omega (arith, long, c.len.ensures)) are now.counted.listed.flags
    now.reached (now.sound t are)

pub returns-then-index-len-clause-found : goal.returns-then-index-len-clause-found
returns-then-index-len-clause-found c =
    let marked = c.loop-index.self.marks.marked in
    let long : vec_len marked ≡ length marked.items = search rules in
    places_found (before c.args.place c.args.trail.now.entries) c.loop-index.index c.loop-index.self c.loop-index.invariant.counted.listed (omega (arith, long, c.len.ensures))
    c.loop-index.invariant.places

pub returns-clause-marks : goal.returns-clause-marks
returns-clause-marks c = λ t are.
    let look = lits_at (clauses_of c.args.pool.now.held) in
    let now = c.loop-index.invariant in
    let all = listed_few c.loop-index.self.marks (search rules) (search rules) now.counted.listed in
    flags_found look c.args.level (before c.args.place c.args.trail.now.entries) c.loop-index.index c.args.self.now.marks c.loop-index.self.marks t
    (fits_before look c.args.place c.args.trail.now c.requires.trail c.requires.fits) c.requires.counted c.requires.none_left (omega (arith, all, now.flags, c.len-index-end.ensures)) are
    now.counted.listed.flags now.reached (now.sound t are)

pub returns-clause-found : goal.returns-clause-found
returns-clause-found c =
    let now = c.loop-index.invariant in
    let all = listed_few c.loop-index.self.marks (search rules) (search rules) now.counted.listed in
    places_found (before c.args.place c.args.trail.now.entries) c.loop-index.index c.loop-index.self now.counted.listed (omega (arith, all, now.flags, c.len-index-end.ensures)) now.places
