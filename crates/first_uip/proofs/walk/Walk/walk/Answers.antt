use Rattle.std.proofs.Common.{◌≡◌, ◌+◌, ◌∷◌, [], length, append-nil, vec_len, vec_capacity, ap, ◌∙◌, sym, subst, arith, rules}
use Rattle.lit_base.specs.Named.{lits_at}
use Rattle.lit_base.specs.Held.{clauses_of}
use Rattle.lit_base.specs.Analysis.{variables_of, trace, first_trace}
use Rattle.first_uip.specs.Marks.{is_flagged, flagged, IsCounted}
use Rattle.first_uip.specs.Places.{before}
use Rattle.first_uip.specs.Reasons.{IsHeldBelow, AreReasonsBelow}
use Rattle.first_uip.specs.Walked.{IsGathered, blank_trace, cited}
use Rattle.first_uip.specs.declared.marks.Marks.{Marks}
use Rattle.first_uip.proofs.Reading.{falsified_below, reasons_below}
use Rattle.first_uip.proofs.Counted.{counted_clear}
use Rattle.first_uip.proofs.Found.{none_is_left}
use Rattle.first_uip.proofs.Gathered.{same_gathered, gathered_same, spare_same}
use Rattle.first_uip.proofs.Settled.{rest_settles}
use Rattle.first_uip.proofs.Standing.{fits_before}
use Rattle.first_uip.proofs.walk.Walk.walk.Goals as goal

-- the conflict is held, over variables that have flags
pub cite-requires-clause-held : goal.cite-requires-clause-held
cite-requires-clause-held c =
    let look = lits_at (clauses_of c.args.pool.now.held) in
    subst (λ bound. IsHeldBelow bound (look c.args.conflict)) (sym (ap (λ (m : Marks). vec_len m.flags) c.begin.ensures.marks ∙ c.requires.idle.marks.len))
    (falsified_below (length c.args.trail.now.saved) c.args.trail.now.entries (look c.args.conflict) c.level-level.ensures.trail.within c.requires.conflict)

-- nothing is marked
pub cite-requires-clause-counted : goal.cite-requires-clause-counted
cite-requires-clause-counted c =
    let entries = c.args.trail.now.entries in
    subst (IsCounted c.level-level.result entries) (sym c.begin.ensures.marks)
    (counted_clear (length c.args.trail.now.saved + 1) c.level-level.result entries c.args.self.now.marks c.requires.idle.marks)

-- the lists are empty
pub cite-requires-clause-room : goal.cite-requires-clause-room
cite-requires-clause-room c = let empty = c.begin.ensures.empty.1 in omega (arith, empty, c.begin.ensures.room.hints, c.requires.idle.room.hints)

-- the reasons are held, over variables that have flags
pub walk_level-place-requires-clause-reasons : goal.walk_level-place-requires-clause-reasons
walk_level-place-requires-clause-reasons c =
    let look = lits_at (clauses_of c.args.pool.now.held) in
    subst (λ bound. AreReasonsBelow bound look c.args.trail.now.entries)
    (sym (c.cite.ensures.flags ∙ (ap (λ (m : Marks). vec_len m.flags) c.begin.ensures.marks ∙ c.requires.idle.marks.len)))
    (reasons_below look (length c.args.trail.now.saved) c.args.trail.now.entries c.level-level.ensures.trail.within c.requires.fits)

pub find_older-requires-clause-reasons : goal.find_older-requires-clause-reasons
find_older-requires-clause-reasons c =
    let look = lits_at (clauses_of c.args.pool.now.held) in
    subst (λ bound. AreReasonsBelow bound look c.args.trail.now.entries)
    (sym (c.walk_level-place.ensures.flags ∙ (c.cite.ensures.flags ∙ (ap (λ (m : Marks). vec_len m.flags) c.begin.ensures.marks ∙ c.requires.idle.marks.len))))
    (reasons_below look (length c.args.trail.now.saved) c.args.trail.now.entries c.level-level.ensures.trail.within c.requires.fits)

-- there are no more entries than variables
pub walk_level-place-requires-clause-spare : goal.walk_level-place-requires-clause-spare
walk_level-place-requires-clause-spare c =
    let few = c.level-level.ensures.trail.fits in
    let empty = c.begin.ensures.empty in
    let lits_empty = empty.0 in
    let hints_empty = empty.1 in
    let touched_empty = empty.2 in
    let begun = c.begin.ensures.room in
    let cited = c.cite.ensures.grows in
    let room = c.requires.idle.room in
    record {
      lits = omega (arith, few, lits_empty, begun.lits, room.lits, ap vec_len c.cite.ensures.lits, ap vec_capacity c.cite.ensures.lits);
      hints = omega (arith, few, hints_empty, begun.hints, room.hints, cited.hints, cited.room.hints);
      touched = omega (arith, few, touched_empty, begun.touched, room.touched, ap vec_len c.cite.ensures.touched, ap vec_capacity c.cite.ensures.touched);
    }

-- the places are those of older entries, of which there are no more
pub gather_older-requires-clause-within : goal.gather_older-requires-clause-within
gather_older-requires-clause-within c = (c.sort_places.ensures.sorted c.args.trail.now.entries c.walk_level-place.result c.level-level.ensures.trail.distinct c.find_older.ensures.found).within

pub gather_older-requires-clause-spare : goal.gather_older-requires-clause-spare
gather_older-requires-clause-spare c =
    let sorted = c.sort_places.ensures.sorted c.args.trail.now.entries c.walk_level-place.result c.level-level.ensures.trail.distinct c.find_older.ensures.found in
    let came = c.walk_level-place.new.self in
    let listed = c.sort_places.new.self in
    let long : vec_len listed.places ≡ length listed.places.items = search rules in
    spare_same c.walk_level-place.result (vec_len listed.places) came listed (omega (arith, long, sorted.few))
    (same_gathered came c.find_older.new.self listed c.find_older.ensures.gathered c.sort_places.ensures.gathered) c.walk_level-place.ensures.spare

-- the walk goes over the current level entry by entry, and over the rest by its marked entries
pub returns-clause-gathered : goal.returns-clause-gathered
returns-clause-gathered c =
    let look = lits_at (clauses_of c.args.pool.now.held) in
    let level = c.level-level.result in
    let entries = c.args.trail.now.entries in
    let trail = c.level-level.ensures.trail in
    let place = c.walk_level-place.result in
    let rest = before place entries in
    let came = c.walk_level-place.new.self in
    let found = c.find_older.new.self in
    let listed = c.sort_places.new.self in
    let sorted = c.sort_places.ensures.sorted entries place trail.distinct c.find_older.ensures.found in
    let begun = c.cite.ensures.traces blank_trace (c.begin.ensures.begins (length c.args.trail.now.saved + 1) level c.requires.idle.marks) in
    let walked = c.walk_level-place.ensures.walked (cited look c.args.conflict blank_trace) begun in
    let here = walked.trace_here in
    let fitting = fits_before look place c.args.trail.now trail c.requires.fits in
    let none = none_is_left level rest came.marks here c.walk_level-place.ensures.counted c.walk_level-place.ensures.none_left walked.stands.flagged in
    let settles = rest_settles look level rest here (is_flagged found.marks.flags.items) fitting none (c.find_older.ensures.marks here walked.stands.flagged) in
    let gathered = c.gather_older.ensures.gathered look (flagged found.marks.flags.items rest) here sorted.at
    (gathered_same level came listed here (same_gathered came found listed c.find_older.ensures.gathered c.sort_places.ensures.gathered) walked.stands.gathered) in
    let first = ap (λ marked. record { marked = marked; stays = []; hints = c.args.conflict ∷ []; touched = [] }) (append-nil (variables_of (look c.args.conflict))) in
    subst (λ now. IsGathered now c.gather_older.new.self (trace look now entries (first_trace look c.args.conflict))) c.level-level.ensures.value
    (subst (IsGathered level c.gather_older.new.self) (sym settles ∙ (walked.rest ∙ ap (trace look level entries) first)) gathered)
