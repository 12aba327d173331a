use Rattle.std.proofs.Common.{◌-◌, true, false, length, ap, sym, ◌∙◌, subst, arith}
use Rattle.lit_base.specs.Held.{clauses_of}
use Rattle.round_prop.specs.Readied.{row_names}
use Rattle.round_prop.specs.Spanned.{AreSpanned}
use Rattle.round_prop.proofs.LoopSteps.{one_step, walk_left, more_named, WalkEnds, ended_table, ended_few}
use Rattle.round_prop.proofs.TableSteps.{in_walk, index_inside, on_still, flags_kept, same_rows-trans, same_rows-refl, more_notes-trans, more_notes-refl}
use Rattle.round_prop.proofs.walk.walk.Goals as goal

pub loop-init : goal.loop-init
loop-init g c = record {
  on = in_walk (clauses_of c.args.pool.now.held) c.args.trail.now.entries c.args.own c.args.table.now c.requires.walk (index_inside (length c.args.trail.now.saved) c.args.own c.requires.own).0
      (omega (arith, c.requires.wide, (index_inside (length c.args.trail.now.saved) c.args.own c.requires.own).1));
  walk = λ done next most step flagged walk.
      walk_left (clauses_of c.args.pool.now.held) c.args.trail.now.entries done next c.args.own (length c.args.table.now.links.nodes.items) (length c.args.table.now.links.nodes.items - 0) c.args.steps.now most 4294967295 c.args.table.now (omega arith) walk;
  notes = more_notes-refl c.args.trail.now.entries (clauses_of c.args.pool.now.held) (row_names c.args.table.now.rows.items) c.args.table.now.noted;
  same = same_rows-refl c.args.table.now;
  steps = omega arith;
}

pub step-requires-clause-walk : goal.step-requires-clause-walk
step-requires-clause-walk g c = c.loop.invariant.on

pub step-requires-clause-flags : goal.step-requires-clause-flags
step-requires-clause-flags g c = flags_kept c.args.table.now c.loop.table c.loop.invariant.same c.requires.walk.table.sized.flags

pub step-requires-clause-own : goal.step-requires-clause-own
step-requires-clause-own g c = c.requires.own.1

pub step-requires-clause-wide : goal.step-requires-clause-wide
step-requires-clause-wide g c = c.loop.invariant.same.heads ∙ c.requires.wide

pub step-requires-clause-room : goal.step-requires-clause-room
step-requires-clause-room g c = omega (arith, c.loop.invariant.same.load, c.loop.invariant.same.notes_room, c.requires.room)

-- the list has ended
pub returns-then-not-step-clause-table : goal.returns-then-not-step-clause-table
returns-then-not-step-clause-table g c =
    let ends : WalkEnds (clauses_of c.args.pool.now.held) c.args.trail.now.entries c.args.own c.step.new.last c.args.table.now c.step.new.table c.args.steps.now c.step.new.steps = λ done next most step flagged walk.
    one_step (clauses_of c.args.pool.now.held) c.args.trail.now.entries done next c.args.own c.loop.last c.step.new.last c.args.table.now c.loop.table c.step.new.table c.step.result false (length c.args.table.now.links.nodes.items) c.loop.counter c.loop.steps c.step.new.steps most
    c.step.ensures.walk c.if-not-step.true (omega (arith, c.loop-test.true, c.len-end.ensures)) step c.loop.invariant.same c.loop.invariant.notes flagged (c.loop.invariant.walk done next most step flagged walk) in
    let more =
    more_notes-trans c.args.trail.now.entries (clauses_of c.args.pool.now.held) (row_names c.args.table.now.rows.items) c.args.table.now.noted c.loop.table.noted c.step.new.table.noted c.loop.invariant.notes
    (more_named c.args.trail.now.entries (clauses_of c.args.pool.now.held) c.args.table.now c.loop.table c.step.new.table c.loop.invariant.same c.step.ensures.notes) in
    ended_table (clauses_of c.args.pool.now.held) c.args.trail.now.entries c.args.own (length c.args.trail.now.saved) c.step.new.last c.args.table.now c.step.new.table c.args.steps.now c.step.new.steps c.requires.own c.requires.wide ends
    (same_rows-trans c.args.table.now c.loop.table c.step.new.table c.loop.invariant.same c.step.ensures.same) more

pub returns-then-not-step-clause-same : goal.returns-then-not-step-clause-same
returns-then-not-step-clause-same g c = same_rows-trans c.args.table.now c.loop.table c.step.new.table c.loop.invariant.same c.step.ensures.same

pub returns-then-not-step-clause-noted : goal.returns-then-not-step-clause-noted
returns-then-not-step-clause-noted g c = λ name noted. c.step.ensures.notes.kept name (c.loop.invariant.notes.kept name noted)

pub returns-then-not-step-clause-few : goal.returns-then-not-step-clause-few
returns-then-not-step-clause-few g c =
    let ends : WalkEnds (clauses_of c.args.pool.now.held) c.args.trail.now.entries c.args.own c.step.new.last c.args.table.now c.step.new.table c.args.steps.now c.step.new.steps = λ done next most step flagged walk.
    one_step (clauses_of c.args.pool.now.held) c.args.trail.now.entries done next c.args.own c.loop.last c.step.new.last c.args.table.now c.loop.table c.step.new.table c.step.result false (length c.args.table.now.links.nodes.items) c.loop.counter c.loop.steps c.step.new.steps most
    c.step.ensures.walk c.if-not-step.true (omega (arith, c.loop-test.true, c.len-end.ensures)) step c.loop.invariant.same c.loop.invariant.notes flagged (c.loop.invariant.walk done next most step flagged walk) in
    ended_few (clauses_of c.args.pool.now.held) c.args.trail.now.entries c.args.own (length c.args.trail.now.saved) c.step.new.last c.args.table.now c.step.new.table c.args.steps.now c.step.new.steps c.requires.own c.requires.wide ends c.requires.walk

-- a node was met
pub loop-preserved : goal.loop-preserved
loop-preserved g c = record {
  on = on_still (clauses_of c.args.pool.now.held) c.args.trail.now.entries c.args.own c.loop.last c.step.new.last c.loop.table c.step.new.table c.step.result c.loop.steps c.step.new.steps c.loop.invariant.on c.if-not-step.false c.step.ensures.walk c.step.ensures.notes
      (ap row_names c.step.ensures.same.rows);
  walk = λ done next most step flagged walk.
      one_step (clauses_of c.args.pool.now.held) c.args.trail.now.entries done next c.args.own c.loop.last c.step.new.last c.args.table.now c.loop.table c.step.new.table c.step.result true (length c.args.table.now.links.nodes.items) c.loop.counter c.loop.steps c.step.new.steps most
      c.step.ensures.walk c.if-not-step.false (omega (arith, c.loop-test.true, c.len-end.ensures)) step c.loop.invariant.same c.loop.invariant.notes flagged (c.loop.invariant.walk done next most step flagged walk);
  notes = more_notes-trans c.args.trail.now.entries (clauses_of c.args.pool.now.held) (row_names c.args.table.now.rows.items) c.args.table.now.noted c.loop.table.noted c.step.new.table.noted c.loop.invariant.notes
      (more_named c.args.trail.now.entries (clauses_of c.args.pool.now.held) c.args.table.now c.loop.table c.step.new.table c.loop.invariant.same c.step.ensures.notes);
  same = same_rows-trans c.args.table.now c.loop.table c.step.new.table c.loop.invariant.same c.step.ensures.same;
  steps = omega (arith, c.loop.invariant.steps, c.step.ensures.steps);
}

-- all nodes were met
pub returns-clause-table : goal.returns-clause-table
returns-clause-table g c =
    let ends : WalkEnds (clauses_of c.args.pool.now.held) c.args.trail.now.entries c.args.own c.loop.last c.args.table.now c.loop.table c.args.steps.now c.loop.steps = λ done next most step flagged walk.
    walk_left (clauses_of c.args.pool.now.held) c.args.trail.now.entries done next c.args.own (length c.args.table.now.links.nodes.items - c.loop.counter) 0 c.loop.steps most c.loop.last c.loop.table
    (omega (arith, c.loop-test.false, c.len-end.ensures)) (c.loop.invariant.walk done next most step flagged walk) in
    ended_table (clauses_of c.args.pool.now.held) c.args.trail.now.entries c.args.own (length c.args.trail.now.saved) c.loop.last c.args.table.now c.loop.table c.args.steps.now c.loop.steps c.requires.own c.requires.wide ends c.loop.invariant.same c.loop.invariant.notes

pub returns-clause-noted : goal.returns-clause-noted
returns-clause-noted g c = c.loop.invariant.notes.kept

pub returns-clause-few : goal.returns-clause-few
returns-clause-few g c =
    let ends : WalkEnds (clauses_of c.args.pool.now.held) c.args.trail.now.entries c.args.own c.loop.last c.args.table.now c.loop.table c.args.steps.now c.loop.steps = λ done next most step flagged walk.
    walk_left (clauses_of c.args.pool.now.held) c.args.trail.now.entries done next c.args.own (length c.args.table.now.links.nodes.items - c.loop.counter) 0 c.loop.steps most c.loop.last c.loop.table
    (omega (arith, c.loop-test.false, c.len-end.ensures)) (c.loop.invariant.walk done next most step flagged walk) in
    ended_few (clauses_of c.args.pool.now.held) c.args.trail.now.entries c.args.own (length c.args.trail.now.saved) c.loop.last c.args.table.now c.loop.table c.args.steps.now c.loop.steps c.requires.own c.requires.wide ends c.requires.walk

-- no row changes
pub step-requires-clause-spanned : goal.step-requires-clause-spanned
step-requires-clause-spanned g c = subst (AreSpanned c.args.pool.now.added) (sym c.loop.invariant.same.rows) c.requires.spanned
