use Rattle.std.proofs.Common.{length, ap, ◌∙◌}
use Rattle.lit_base.specs.Held.{clauses_of}
use Rattle.round_prop.specs.declared.table.Table.{Table}
use Rattle.round_prop.specs.Noting.{conflict_in}
use Rattle.round_prop.specs.Readied.{IsReady}
use Rattle.round_prop.proofs.Readying.{gathered_ready, sorted_ready, same_sorted, ready_round, units_if_none}
use Rattle.round_prop.proofs.Rounding.{notes_within}
use Rattle.round_prop.proofs.TableSteps.{same_rows-trans}
use Rattle.round_prop.proofs.round.meet.Goals as goal
use Rattle.round_prop.proofs.round.meet.Goals.{After-conflict_in}

pub gather-requires-clause-table : goal.gather-requires-clause-table
gather-requires-clause-table g c = c.requires.ready.table

pub gather-requires-clause-wide : goal.gather-requires-clause-wide
gather-requires-clause-wide g c = c.requires.ready.wide

pub gather-requires-clause-room : goal.gather-requires-clause-room
gather-requires-clause-room g c = c.requires.ready.room

sorted : (g : _) (c : goal.After-conflict_in g) → Table
sorted g c = record c.gather.new.table { noted = c.order.new.self }

ready : (g : _) (c : goal.After-conflict_in g) → IsReady (length c.args.trail.now.saved) (clauses_of c.args.pool.now.held) c.args.trail.now.entries c.args.trail.now.entries (sorted g c)
unfolding sorted
ready g c =
    let clauses = clauses_of c.args.pool.now.held in
    let n = length c.args.trail.now.saved in
    sorted_ready c.gather.new.table c.order.new.self c.order.ensures.same c.order.ensures.flags c.order.ensures.room n clauses c.args.trail.now.entries c.args.trail.now.entries
    (gathered_ready n clauses c.args.trail.now.entries _ c.args.table.now c.gather.new.table c.requires.ready c.gather.ensures.same c.gather.ensures.table c.gather.ensures.noted)

pub returns-clause-conflict : goal.returns-clause-conflict
unfolding sorted
returns-clause-conflict g c =
    c.conflict_in.ensures
    ∙ (ap (λ ns. conflict_in c.args.trail.now.entries ns) c.deref.ensures.value
    ∙ (ready_round (length c.args.trail.now.saved) (clauses_of c.args.pool.now.held) c.args.trail.now.entries (sorted g c) (ready g c) c.order.ensures.order c.requires.finds c.requires.rising).0)

pub returns-clause-units : goal.returns-clause-units
unfolding sorted
returns-clause-units g c =
    let told = ready_round (length c.args.trail.now.saved) (clauses_of c.args.pool.now.held) c.args.trail.now.entries (sorted g c) (ready g c) c.order.ensures.order c.requires.finds c.requires.rising in
    units_if_none (clauses_of c.args.pool.now.held) c.args.trail.now.entries c.order.new.self.notes.items c.conflict_in.result
    (c.conflict_in.ensures ∙ (ap (λ ns. conflict_in c.args.trail.now.entries ns) c.deref.ensures.value ∙ told.0)) told.1

pub returns-clause-within : goal.returns-clause-within
unfolding sorted
returns-clause-within g c = notes_within (length c.args.trail.now.saved) c.args.trail.now.entries (clauses_of c.args.pool.now.held) c.order.new.self.notes.items c.requires.within (ready g c).table.sound

pub returns-clause-ready : goal.returns-clause-ready
unfolding sorted
returns-clause-ready g c = ready g c

pub returns-clause-same : goal.returns-clause-same
unfolding sorted
returns-clause-same g c =
    same_rows-trans c.args.table.now c.gather.new.table (sorted g c) c.gather.ensures.same (same_sorted c.gather.new.table c.order.new.self c.order.ensures.same c.order.ensures.flags c.order.ensures.room)

pub returns-clause-few : goal.returns-clause-few
returns-clause-few g c = c.gather.ensures.few c.requires.ready.apart
