use Rattle.std.proofs.Common.{length, ap, sym, ◌∙◌}
use Rattle.lit_base.specs.Held.{clauses_of}
use Rattle.trail_book.specs.TrailState.{TrailState}
use Rattle.round_prop.proofs.Readying.{round_conflict, round_units}
use Rattle.round_prop.proofs.TableSteps.{same_rows-trans}
use Rattle.round_prop.proofs.round.run_round.Goals as goal

-- there is a conflict
pub returns-then-is_some-clause-conflict : goal.returns-then-is_some-clause-conflict
returns-then-is_some-clause-conflict g c = (round_conflict (clauses_of c.args.pool.now.held) c.args.trail.now.entries c.meet-conflict.result c.meet-conflict.ensures.conflict (sym c.if-is_some.ensures)).0

pub returns-then-is_some-clause-trail : goal.returns-then-is_some-clause-trail
returns-then-is_some-clause-trail g c =
    ap (λ es. let t : TrailState = record { entries = es; saved = c.args.trail.now.saved } in t)
    (round_conflict (clauses_of c.args.pool.now.held) c.args.trail.now.entries c.meet-conflict.result c.meet-conflict.ensures.conflict (sym c.if-is_some.ensures)).1

-- there is none, and the units are implied
pub settle-requires : goal.settle-requires
settle-requires g c = c.meet-conflict.ensures.within

pub returns-clause-conflict : goal.returns-clause-conflict
returns-clause-conflict g c =
    (round_units (clauses_of c.args.pool.now.held) c.args.trail.now.entries c.settle.new.trail.entries c.meet-conflict.new.table.noted.notes.items c.meet-conflict.result c.meet-conflict.ensures.conflict (sym c.if-is_some.ensures) c.meet-conflict.ensures.units
    (ap (λ (t : TrailState). t.entries) c.settle.ensures.trail)).0

pub returns-clause-trail : goal.returns-clause-trail
returns-clause-trail g c =
    let told =
    round_units (clauses_of c.args.pool.now.held) c.args.trail.now.entries c.settle.new.trail.entries c.meet-conflict.new.table.noted.notes.items c.meet-conflict.result c.meet-conflict.ensures.conflict (sym c.if-is_some.ensures) c.meet-conflict.ensures.units
    (ap (λ (t : TrailState). t.entries) c.settle.ensures.trail) in
    c.settle.ensures.trail ∙ ap (λ es. let t : TrailState = record { entries = es; saved = c.args.trail.now.saved } in t) (sym (ap (λ (t : TrailState). t.entries) c.settle.ensures.trail) ∙ told.1)

pub returns-clause-ready : goal.returns-clause-ready
returns-clause-ready g c = c.settle.ensures.ready (length c.args.trail.now.saved) (clauses_of c.args.pool.now.held) c.requires.finds c.meet-conflict.ensures.ready

pub returns-clause-same : goal.returns-clause-same
returns-clause-same g c = same_rows-trans c.args.table.now c.meet-conflict.new.table c.settle.new.table c.meet-conflict.ensures.same c.settle.ensures.same
