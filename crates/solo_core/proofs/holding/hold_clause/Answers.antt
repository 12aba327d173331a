use Rattle.std.proofs.Common.{ap, sym, ◌∙◌, subst}
use Rattle.std.specs.Prelude.{is_some}
use Rattle.lit_base.specs.Named.{lits_at}
use Rattle.lit_base.specs.Held.{clauses_of, unused}
use Rattle.round_prop.specs.Spanned.{IsPlacedIn}
use Rattle.round_prop.proofs.Spans.{placed_added}
use Rattle.solo_core.proofs.Joined.{found_new, new_to, attached-on_ok, on_ok_always}
use Rattle.solo_core.proofs.holding.hold_clause.Goals as goal

-- the clause is held now
pub attach-requires-clause-held : goal.attach-requires-clause-held
attach-requires-clause-held c =
    ap (λ held. is_some (lits_at (clauses_of held) c.args.name)) c.in_ok-add.ensures.held
    ∙ ap is_some (found_new (unused (record { name = c.args.name; lits = c.args.lits.now })) c.args.pool.now.held c.requires.free)

-- it isn't attached yet
pub attach-requires-clause-new : goal.attach-requires-clause-new
attach-requires-clause-new c = new_to c.args.rounds.now c.args.name (clauses_of c.args.pool.now.held) c.args.trail.now.entries c.requires.attached c.requires.free

-- then it is
pub returns-clause-attached : goal.returns-clause-attached
returns-clause-attached c =
    attached-on_ok c.attach.result c.args.rounds.now c.attach.new.self c.args.pool.now.held c.add.new.self.held c.args.trail.now.entries c.args.name c.args.lits.now
    c.in_ok-add.ensures.held c.attach.ensures.attached c.requires.free c.requires.attached

-- and what propagation remembers of places is right
pub returns-clause-placed : goal.returns-clause-placed
returns-clause-placed c =
    on_ok_always c.attach.result
    (c.attach.ensures.placed c.add.new.self.added
    (subst (IsPlacedIn c.args.rounds.now) (sym c.in_ok-add.ensures.added)
    (placed_added c.args.rounds.now (record { name = c.args.name; lits = c.args.lits.now }) c.args.pool.now.added c.add.ensures.new c.requires.placed)))
