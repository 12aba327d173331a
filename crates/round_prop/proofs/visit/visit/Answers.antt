use Rattle.std.proofs.Common.{◌≡◌, ℕ, ◌<◌, List, length, get_or, ap, sym, ◌∙◌, subst}
use Rattle.std.specs.Prelude.{Some, is_some, slice_get}
use Rattle.lit_base.specs.Named.{lits_at}
use Rattle.lit_base.specs.Held.{clauses_of}
use Rattle.lit_base.specs.declared.name.Name.{Name}
use Rattle.round_prop.specs.declared.note.Note.{Note}
use Rattle.round_prop.specs.declared.row.Row.{Row}
use Rattle.round_prop.specs.Linked.{IsOther, place_in}
use Rattle.round_prop.specs.Noting.{IsNoted}
use Rattle.round_prop.specs.Readied.{row_names}
use Rattle.round_prop.proofs.Placed.{true_before, is_before, is_not_before}
use Rattle.round_prop.proofs.NoteSteps.{added_noted}
use Rattle.round_prop.proofs.VisitSteps.{visit_blocked, visit_moved, visit_late, visit_noted, pair_at, pair_found, pair_last, note_sound, named_at, name_is, more_by_added}
use Rattle.round_prop.proofs.Spans.{row_spanned}
use Rattle.round_prop.proofs.visit.visit.Goals as goal

any_row : Row
any_row = record { name = record { period = 0; core = 0; index = 0 }; start = 0; end = 0 }

-- the row has a name, and its clause is read
name_here : (rows : List Row) → ℕ → Name
unfolding any_row
name_here rows row = (get_or rows row any_row).name

here_named : (rows : List Row) (row : ℕ) → row < length rows → slice_get (row_names rows) row ≡ Some (name_here rows row)
unfolding name_here any_row
here_named rows row inside = named_at rows row any_row inside

-- the other link was true before
pub returns-then-standing-since-clause-link : goal.returns-then-standing-since-clause-link
returns-then-standing-since-clause-link g c = λ done next name named step flagged row.
    visit_blocked (clauses_of c.args.pool.now.held) c.args.trail.now.entries done next c.args.noted.now.notes.items name c.args.own c.args.other step row (true_before c.args.trail.now.entries c.args.other c.args.own c.standing.result c.args.since c.standing.ensures.trail.few c.standing.ensures.value c.requires.since c.if-standing-since.true)

pub lits_of-lits-requires-clause-held : goal.lits_of-lits-requires-clause-held
unfolding here_named name_here any_row
lits_of-lits-requires-clause-held g c = ap is_some (c.requires.pair (name_here c.args.rows.now c.args.row) (here_named c.args.rows.now c.args.row c.requires.row)).found

-- there is another literal
pub returns-in-Some-clause-link : goal.returns-in-Some-clause-link
unfolding here_named name_here any_row
returns-in-Some-clause-link g c = λ done next name named step flagged row.
    let is = name_is c.args.rows.now c.args.row any_row name c.requires.row named in
    visit_moved (clauses_of c.args.pool.now.held) c.args.trail.now.entries done next c.args.noted.now.notes.items name c.args.own c.args.other step row c.lits_of-lits.result.now
    (ap (λ n. lits_at (clauses_of c.args.pool.now.held) n) (sym is) ∙ c.lits_of-lits.ensures.lits) c.in-Some.lit (subst (λ o. IsOther c.args.trail.now.entries c.lits_of-lits.result.now c.args.other o) c.in-Some.is c.other_link.ensures)

pub returns-in-Some-clause-pair : goal.returns-in-Some-clause-pair
unfolding here_named name_here any_row
returns-in-Some-clause-pair g c = λ name named.
    let is = name_is c.args.rows.now c.args.row any_row name c.requires.row named in
    pair_found (clauses_of c.args.pool.now.held) c.args.trail.now.entries name c.args.own c.args.other c.in-Some.lit c.lits_of-lits.result.now (c.requires.pair name named)
    (ap (λ n. lits_at (clauses_of c.args.pool.now.held) n) (sym is) ∙ c.lits_of-lits.ensures.lits) (subst (λ o. IsOther c.args.trail.now.entries c.lits_of-lits.result.now c.args.other o) c.in-Some.is c.other_link.ensures)

-- all but the other link are false
pub latest-last-requires-clause-held : goal.latest-last-requires-clause-held
unfolding here_named name_here any_row
latest-last-requires-clause-held g c =
    let name = name_here c.args.rows.now c.args.row in
    (pair_at (clauses_of c.args.pool.now.held) name c.args.own c.args.other c.lits_of-lits.result.now (c.requires.pair name (here_named c.args.rows.now c.args.row c.requires.row)) c.lits_of-lits.ensures.lits).first

pub latest-last-requires-clause-apart : goal.latest-last-requires-clause-apart
unfolding here_named name_here any_row
latest-last-requires-clause-apart g c = (c.requires.pair (name_here c.args.rows.now c.args.row) (here_named c.args.rows.now c.args.row c.requires.row)).pair.apart

pub returns-then-since-place-clause-link : goal.returns-then-since-place-clause-link
unfolding here_named name_here any_row
returns-then-since-place-clause-link g c = λ done next name named step flagged row.
    let is = name_is c.args.rows.now c.args.row any_row name c.requires.row named in
    visit_late (clauses_of c.args.pool.now.held) c.args.trail.now.entries done next c.args.noted.now.notes.items name c.args.own c.args.other step row c.lits_of-lits.result.now
    (ap (λ n. lits_at (clauses_of c.args.pool.now.held) n) (sym is) ∙ c.lits_of-lits.ensures.lits) c.latest-last.result (subst (λ o. IsOther c.args.trail.now.entries c.lits_of-lits.result.now c.args.other o) c.in_default.is c.other_link.ensures) c.latest-last.ensures (is_before (place_in c.args.trail.now.entries c.args.own) (place_in c.args.trail.now.entries c.latest-last.result) c.place.result c.args.since c.requires.since c.place.ensures c.if-since-place.true)

pub returns-then-since-place-clause-pair : goal.returns-then-since-place-clause-pair
unfolding here_named name_here any_row
returns-then-since-place-clause-pair g c = λ name named.
    let is = name_is c.args.rows.now c.args.row any_row name c.requires.row named in
    pair_last (clauses_of c.args.pool.now.held) c.args.trail.now.entries name c.args.own c.args.other c.latest-last.result c.lits_of-lits.result.now (c.requires.pair name named)
    (ap (λ n. lits_at (clauses_of c.args.pool.now.held) n) (sym is) ∙ c.lits_of-lits.ensures.lits) c.latest-last.ensures

-- none became false later, and the clause is noted
pub returns-clause-link : goal.returns-clause-link
unfolding here_named name_here any_row
returns-clause-link g c = λ done next name named step flagged row.
    let is = name_is c.args.rows.now c.args.row any_row name c.requires.row named in
    let note : Note = record { name = name_here c.args.rows.now c.args.row; lit = Some c.args.other; row = c.args.row } in
    let noted : IsNoted c.add.new.self.notes.items (name_here c.args.rows.now c.args.row) =
    added_noted (row_names c.args.rows.now) c.args.noted.now.flags.items c.args.noted.now.notes.items c.add.new.self.flags.items c.add.new.self.notes.items note (here_named c.args.rows.now c.args.row c.requires.row) c.add.ensures.added flagged in
    visit_noted (clauses_of c.args.pool.now.held) c.args.trail.now.entries done next c.args.noted.now.notes.items name c.args.own c.args.other step row c.lits_of-lits.result.now
    (ap (λ n. lits_at (clauses_of c.args.pool.now.held) n) (sym is) ∙ c.lits_of-lits.ensures.lits) c.latest-last.result c.add.new.self.notes.items (subst (λ o. IsOther c.args.trail.now.entries c.lits_of-lits.result.now c.args.other o) c.in_default.is c.other_link.ensures) c.latest-last.ensures
    (is_not_before (place_in c.args.trail.now.entries c.args.own) (place_in c.args.trail.now.entries c.latest-last.result) c.place.result c.args.since c.requires.since c.place.ensures c.if-since-place.false) (subst (λ n. IsNoted c.add.new.self.notes.items n) is noted)

pub returns-clause-notes : goal.returns-clause-notes
unfolding here_named name_here any_row
returns-clause-notes g c =
    let name = name_here c.args.rows.now c.args.row in
    let note : Note = record { name = name; lit = Some c.args.other; row = c.args.row } in
    more_by_added c.args.trail.now.entries (clauses_of c.args.pool.now.held) (row_names c.args.rows.now) c.args.noted.now c.add.new.self note c.add.ensures.added (here_named c.args.rows.now c.args.row c.requires.row)
    (note_sound (clauses_of c.args.pool.now.held) c.args.trail.now.entries name c.args.own c.args.other c.lits_of-lits.result.now c.args.row (c.requires.pair name (here_named c.args.rows.now c.args.row c.requires.row))
    c.lits_of-lits.ensures.lits (subst (λ o. IsOther c.args.trail.now.entries c.lits_of-lits.result.now c.args.other o) c.in_default.is c.other_link.ensures)) c.add.ensures.notes_room c.add.ensures.flags_room

-- it tells where its clause stands
pub lits_of-lits-requires-clause-spanned : goal.lits_of-lits-requires-clause-spanned
unfolding any_row
lits_of-lits-requires-clause-spanned g c = row_spanned c.args.pool.now.added c.args.rows.now c.args.row any_row c.requires.row c.requires.spanned
