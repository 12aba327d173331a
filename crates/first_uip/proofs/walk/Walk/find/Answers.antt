use Rattle.std.proofs.Common.{◌≡◌, ◌==◌, ◌||◌, ◌+◌, cond, count_by, vec_len, ap, ◌∙◌, sym, arith}
use Rattle.std.specs.Prelude.{None, Some}
use Rattle.std.proofs.lemmas.List.Sums.{sum_by_push}
use Rattle.lit_base.specs.Named.{lits_at}
use Rattle.lit_base.specs.Held.{clauses_of}
use Rattle.lit_base.specs.Analysis.{is_marked}
use Rattle.lit_base.specs.declared.trail.Entry.{Entry}
use Rattle.trail_book.specs.TrailState.{place_of}
use Rattle.first_uip.specs.Marks.{is_flagged, one_if}
use Rattle.first_uip.specs.Places.{before, entry_of}
use Rattle.first_uip.specs.Reasons.{IsReasonBelow, root_variables}
use Rattle.first_uip.proofs.Placed.{held_at, place_below, place_above, place_nowhere, entry_below, entry_above, entry_nowhere}
use Rattle.first_uip.proofs.Standing.{entry_there}
use Rattle.first_uip.proofs.walk.Walk.find.Goals as goal

-- a variable without a place
pub returns-in_default-clause-marks : goal.returns-in_default-clause-marks
returns-in_default-clause-marks c = λ v.
    let none : None ≡ place_of c.args.trail.now.entries c.args.var = sym c.in_default.is ∙ c.place.ensures.value in
    ap (λ o. is_marked (root_variables (lits_at (clauses_of c.args.pool.now.held)) o) v || is_flagged c.args.self.now.marks.flags.items v)
    (entry_nowhere c.args.place c.args.var c.args.trail.now.entries c.requires.trail.distinct none)

pub returns-in_default-clause-places : goal.returns-in_default-clause-places
returns-in_default-clause-places c = λ p.
    let none : None ≡ place_of c.args.trail.now.entries c.args.var = sym c.in_default.is ∙ c.place.ensures.value in
    let no_more : 0 ≡ one_if (λ at. at == p) (place_of (before c.args.place c.args.trail.now.entries) c.args.var) =
    ap (one_if (λ at. at == p)) (place_nowhere c.args.place c.args.var c.args.trail.now.entries c.requires.trail.distinct none) in
    omega arith

-- one whose entry was met
pub returns-then-at-place-clause-marks : goal.returns-then-at-place-clause-marks
returns-then-at-place-clause-marks c = λ v.
    ap (λ o. is_marked (root_variables (lits_at (clauses_of c.args.pool.now.held)) o) v || is_flagged c.args.self.now.marks.flags.items v)
    (entry_above c.args.place c.in-Some.at c.args.var c.args.trail.now.entries c.requires.trail.distinct (sym c.in-Some.is ∙ c.place.ensures.value) c.if-at-place.true)

pub returns-then-at-place-clause-places : goal.returns-then-at-place-clause-places
returns-then-at-place-clause-places c = λ p.
    let no_more : 0 ≡ one_if (λ at. at == p) (place_of (before c.args.place c.args.trail.now.entries) c.args.var) =
    ap (one_if (λ at. at == p))
    (place_above c.args.place c.in-Some.at c.args.var c.args.trail.now.entries c.requires.trail.distinct (sym c.in-Some.is ∙ c.place.ensures.value) c.if-at-place.true) in
    omega arith

-- an entry before the place: its reason is held, over variables that have flags
pub mark_reason-requires-clause-held : goal.mark_reason-requires-clause-held
mark_reason-requires-clause-held c =
    let look = lits_at (clauses_of c.args.pool.now.held) in
    let room = vec_len c.args.self.now.marks.flags in
    held_at (λ (e : Entry). IsReasonBelow room look e.reason) c.args.trail.now.entries c.in-Some.at c.entry-entry.result c.requires.reasons c.entry-entry.ensures.value

-- at level 0 its variables are marked
pub returns-clause-marks : goal.returns-clause-marks
returns-clause-marks c = λ v.
    let entries = c.args.trail.now.entries in
    let is = sym c.in-Some.is ∙ c.place.ensures.value in
    let found : Some c.entry-entry.result ≡ entry_of (before c.args.place entries) c.args.var =
    sym (entry_there c.args.var c.in-Some.at entries c.entry-entry.result (sym is) c.entry-entry.ensures.value)
    ∙ entry_below c.args.place c.in-Some.at c.args.var entries c.requires.trail.distinct is c.if-at-place.false in
    c.mark_reason.ensures.flags v ∙ ap (λ o. is_marked (root_variables (lits_at (clauses_of c.args.pool.now.held)) o) v || is_flagged c.args.self.now.marks.flags.items v) found

-- its place is noted
pub returns-clause-places : goal.returns-clause-places
returns-clause-places c = λ p.
    let is = sym c.in-Some.is ∙ c.place.ensures.value in
    ap (count_by (λ at. at == p)) c.push_reserved.ensures.items
    ∙ (sum_by_push (λ at. cond (at == p) 1 0) c.args.self.now.places.items c.in-Some.at
    ∙ ap (λ o. count_by (λ at. at == p) c.args.self.now.places.items + one_if (λ at. at == p) o)
    (place_below c.args.place c.in-Some.at c.args.var c.args.trail.now.entries c.requires.trail.distinct is c.if-at-place.false))
