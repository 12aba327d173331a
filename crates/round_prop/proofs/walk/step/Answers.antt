use Rattle.std.proofs.Common.{◌+◌, ◌/◌, ◌≤◌, length, refl, ap, sym, ◌∙◌, subst, arith}
use Rattle.std.specs.Prelude.{slice_get}
use Rattle.lit_base.specs.Held.{clauses_of}
use Rattle.round_prop.specs.declared.table.Table.{Table}
use Rattle.round_prop.specs.Noting.{AreFlagged, HasMoreNotes}
use Rattle.round_prop.specs.Readied.{row_names}
use Rattle.round_prop.specs.Spanned.{AreSpanned}
use Rattle.round_prop.proofs.StepFacts.{is_met, link_inside, link_stays, link_leaves, nodes_kept, step_stays, step_leaves, step_over, same_stayed, same_left}
use Rattle.round_prop.proofs.TableSteps.{index_under, more_notes-refl, same_rows-refl}
use Rattle.round_prop.proofs.walk.step.Goals as goal

pub behind-requires : goal.behind-requires
behind-requires g c = omega (arith, c.requires.wide, c.index-list.ensures.value, index_under (length c.args.trail.now.saved) c.args.own c.requires.own)

pub index-requires : goal.index-requires
index-requires g c =
    let met = is_met (clauses_of c.args.pool.now.held) c.args.trail.now.entries c.args.own (length c.args.trail.now.saved) c.args.last.now c.args.table.now c.index-list.result c.in-Some.node c.behind.result c.requires.walk c.requires.wide c.requires.own
    (omega (arith, c.index-list.ensures.low)) c.index-list.ensures.value c.in-Some.is c.behind.ensures in
    omega (arith, c.flip.ensures, met.other_in)

pub visit-link-requires-clause-row : goal.visit-link-requires-clause-row
visit-link-requires-clause-row g c =
    let met = is_met (clauses_of c.args.pool.now.held) c.args.trail.now.entries c.args.own (length c.args.trail.now.saved) c.args.last.now c.args.table.now c.index-list.result c.in-Some.node c.behind.result c.requires.walk c.requires.wide c.requires.own
    (omega (arith, c.index-list.ensures.low)) c.index-list.ensures.value c.in-Some.is c.behind.ensures in
    let e = ap length c.deref.ensures.value in
    omega (arith, met.half_in, e)

pub visit-link-requires-clause-pair : goal.visit-link-requires-clause-pair
visit-link-requires-clause-pair g c = λ name named.
    let met = is_met (clauses_of c.args.pool.now.held) c.args.trail.now.entries c.args.own (length c.args.trail.now.saved) c.args.last.now c.args.table.now c.index-list.result c.in-Some.node c.behind.result c.requires.walk c.requires.wide c.requires.own
    (omega (arith, c.index-list.ensures.low)) c.index-list.ensures.value c.in-Some.is c.behind.ensures in
    met.pair c.flip.result c.index.result.now c.flip.ensures c.index.ensures name (sym (ap (λ rows. slice_get (row_names rows) (c.in-Some.node / 2)) c.deref.ensures.value) ∙ named)

-- the list ends
pub returns-in_default-clause-walk : goal.returns-in_default-clause-walk
returns-in_default-clause-walk g c = λ done next left most step flagged walk.
    step_over (clauses_of c.args.pool.now.held) c.args.trail.now.entries done next c.args.own (length c.args.trail.now.saved) (left + 1) c.args.steps.now most c.args.last.now c.args.table.now c.index-list.result c.behind.result walk c.requires.wide c.requires.own
    (omega (arith, c.index-list.ensures.low)) c.index-list.ensures.value c.in_default.is c.behind.ensures

pub returns-in_default-clause-notes : goal.returns-in_default-clause-notes
returns-in_default-clause-notes g c = more_notes-refl c.args.trail.now.entries (clauses_of c.args.pool.now.held) (row_names c.args.table.now.rows.items) c.args.table.now.noted

pub returns-in_default-clause-same : goal.returns-in_default-clause-same
returns-in_default-clause-same g c = same_rows-refl c.args.table.now

-- the node stays
pub returns-then-eq-clause-walk : goal.returns-then-eq-clause-walk
returns-then-eq-clause-walk g c = λ done next left most step flagged walk.
    let clauses = clauses_of c.args.pool.now.held in
    let trail = c.args.trail.now.entries in
    let t = c.args.table.now in
    let real : 1 ≤ c.index-list.result = omega (arith, c.index-list.ensures.low) in
    let met = is_met clauses trail c.args.own (length c.args.trail.now.saved) c.args.last.now t c.index-list.result c.in-Some.node c.behind.result c.requires.walk c.requires.wide c.requires.own real c.index-list.ensures.value c.in-Some.is c.behind.ensures in
    let after : Table = record { rows = t.rows; links = t.links; noted = c.visit-link.new.noted } in
    step_stays clauses trail done next c.args.own (length c.args.trail.now.saved) left c.args.steps.now most c.args.last.now t c.index-list.result c.in-Some.node c.behind.result walk c.requires.wide c.requires.own real c.index-list.ensures.value c.in-Some.is
    c.behind.ensures c.visit-link.result c.index.result.now.lit (met.other c.flip.result c.index.result.now c.flip.ensures c.index.ensures) after
    refl
    (λ name named row. c.visit-link.ensures.link done next name (ap (λ rows. slice_get (row_names rows) (c.in-Some.node / 2)) c.deref.ensures.value ∙ named) step
    (subst (λ rows. AreFlagged (row_names rows) t.noted.flags.items t.noted.notes.items) (sym c.deref.ensures.value) flagged) row)
    c.visit-link.ensures.notes.kept c.visit-link.new.steps c.visit-link.ensures.few (link_stays c.visit-link.result c.args.own c.eq.result c.eq.ensures c.if-eq.true) refl

pub returns-then-eq-clause-notes : goal.returns-then-eq-clause-notes
returns-then-eq-clause-notes g c =
    subst (λ rows. HasMoreNotes c.args.trail.now.entries (clauses_of c.args.pool.now.held) (row_names rows) c.args.table.now.noted c.visit-link.new.noted) c.deref.ensures.value c.visit-link.ensures.notes

pub returns-then-eq-clause-same : goal.returns-then-eq-clause-same
returns-then-eq-clause-same g c =
    let t = c.args.table.now in
    same_stayed c.args.trail.now.entries (clauses_of c.args.pool.now.held) t c.visit-link.new.noted
    (subst (λ rows. HasMoreNotes c.args.trail.now.entries (clauses_of c.args.pool.now.held) (row_names rows) t.noted c.visit-link.new.noted) c.deref.ensures.value c.visit-link.ensures.notes)

-- the node leaves
pub unlink-requires-clause-list : goal.unlink-requires-clause-list
unlink-requires-clause-list g c = omega (arith, c.requires.wide, c.index-list.ensures.value, index_under (length c.args.trail.now.saved) c.args.own c.requires.own)

pub unlink-requires-clause-node : goal.unlink-requires-clause-node
unlink-requires-clause-node g c =
    (is_met (clauses_of c.args.pool.now.held) c.args.trail.now.entries c.args.own (length c.args.trail.now.saved) c.args.last.now c.args.table.now c.index-list.result c.in-Some.node c.behind.result c.requires.walk c.requires.wide c.requires.own
    (omega (arith, c.index-list.ensures.low)) c.index-list.ensures.value c.in-Some.is c.behind.ensures).node_in

pub put-requires-clause-list : goal.put-requires-clause-list
put-requires-clause-list g c =
    let met = is_met (clauses_of c.args.pool.now.held) c.args.trail.now.entries c.args.own (length c.args.trail.now.saved) c.args.last.now c.args.table.now c.index-list.result c.in-Some.node c.behind.result c.requires.walk c.requires.wide c.requires.own
    (omega (arith, c.index-list.ensures.low)) c.index-list.ensures.value c.in-Some.is c.behind.ensures in
    let bounds =
    link_inside (clauses_of c.args.pool.now.held) c.visit-link.result c.index.result.now.lit (length c.args.trail.now.saved) c.args.table.now c.in-Some.node c.requires.within met.half_in
    (λ name named. c.visit-link.ensures.pair name (ap (λ rows. slice_get (row_names rows) (c.in-Some.node / 2)) c.deref.ensures.value ∙ named)) in
    omega (arith, c.index-2.ensures.value, bounds.1, c.requires.wide, c.unlink.ensures.heads)

pub put-requires-clause-node : goal.put-requires-clause-node
put-requires-clause-node g c =
    nodes_kept c.args.table.now.links.nodes.items c.unlink.new.self.nodes.items c.in-Some.node c.unlink.ensures.lits
    (is_met (clauses_of c.args.pool.now.held) c.args.trail.now.entries c.args.own (length c.args.trail.now.saved) c.args.last.now c.args.table.now c.index-list.result c.in-Some.node c.behind.result c.requires.walk c.requires.wide c.requires.own
    (omega (arith, c.index-list.ensures.low)) c.index-list.ensures.value c.in-Some.is c.behind.ensures).node_in

pub returns-clause-walk : goal.returns-clause-walk
returns-clause-walk g c = λ done next left most step flagged walk.
    let clauses = clauses_of c.args.pool.now.held in
    let trail = c.args.trail.now.entries in
    let t = c.args.table.now in
    let variables = length c.args.trail.now.saved in
    let real : 1 ≤ c.index-list.result = omega (arith, c.index-list.ensures.low) in
    let met = is_met clauses trail c.args.own variables c.args.last.now t c.index-list.result c.in-Some.node c.behind.result c.requires.walk c.requires.wide c.requires.own real c.index-list.ensures.value c.in-Some.is c.behind.ensures in
    let bounds =
    link_inside clauses c.visit-link.result c.index.result.now.lit variables t c.in-Some.node c.requires.within met.half_in
    (λ name named. c.visit-link.ensures.pair name (ap (λ rows. slice_get (row_names rows) (c.in-Some.node / 2)) c.deref.ensures.value ∙ named)) in
    let after : Table = record { rows = t.rows; links = c.put.new.self; noted = c.visit-link.new.noted } in
    step_leaves clauses trail done next c.args.own variables left c.args.steps.now most c.args.last.now t c.index-list.result c.in-Some.node c.behind.result walk c.requires.wide c.requires.own real c.index-list.ensures.value c.in-Some.is
    c.behind.ensures c.visit-link.result c.index.result.now.lit (met.other c.flip.result c.index.result.now c.flip.ensures c.index.ensures) after
    refl
    (λ name named row. c.visit-link.ensures.link done next name (ap (λ rows. slice_get (row_names rows) (c.in-Some.node / 2)) c.deref.ensures.value ∙ named) step
    (subst (λ rows. AreFlagged (row_names rows) t.noted.flags.items t.noted.notes.items) (sym c.deref.ensures.value) flagged) row)
    c.visit-link.ensures.notes.kept c.visit-link.new.steps c.visit-link.ensures.few (link_leaves c.visit-link.result c.args.own c.eq.result c.eq.ensures c.if-eq.false) bounds.0 (omega (arith, c.requires.wide, bounds.1))
    c.unlink.new.self c.unlink.ensures.unlinked c.unlink.ensures.lits c.unlink.ensures.heads c.index-2.result c.index-2.ensures.value c.put.ensures.pushed c.put.ensures.lits c.put.ensures.heads

pub returns-clause-notes : goal.returns-clause-notes
returns-clause-notes g c =
    subst (λ rows. HasMoreNotes c.args.trail.now.entries (clauses_of c.args.pool.now.held) (row_names rows) c.args.table.now.noted c.visit-link.new.noted) c.deref.ensures.value c.visit-link.ensures.notes

pub returns-clause-same : goal.returns-clause-same
returns-clause-same g c =
    let t = c.args.table.now in
    same_left c.args.trail.now.entries (clauses_of c.args.pool.now.held) t c.put.new.self c.unlink.new.self c.visit-link.new.noted c.in-Some.node c.visit-link.result
    c.unlink.ensures.lits c.unlink.ensures.heads c.unlink.ensures.room
    c.put.ensures.lits c.put.ensures.heads c.put.ensures.room
    (subst (λ rows. HasMoreNotes c.args.trail.now.entries (clauses_of c.args.pool.now.held) (row_names rows) t.noted c.visit-link.new.noted) c.deref.ensures.value c.visit-link.ensures.notes)

-- the rows are those of the table
pub visit-link-requires-clause-spanned : goal.visit-link-requires-clause-spanned
visit-link-requires-clause-spanned g c = subst (AreSpanned c.args.pool.now.added) (sym c.deref.ensures.value) c.requires.spanned
