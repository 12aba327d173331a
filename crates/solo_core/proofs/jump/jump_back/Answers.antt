use Rattle.std.proofs.Common.{subst, sym}
use Rattle.round_prop.specs.Attached.{IsAttachedTo}
use Rattle.trail_book.specs.TrailState.{TrailState}
use Rattle.solo_core.proofs.Joined.{TellsCut, TellsAbove, jumped_attached}
use Rattle.solo_core.proofs.jump.jump_back.Goals as goal

-- the trail is the one that propagation was told
pub returns-clause-attached : goal.returns-clause-attached
returns-clause-attached c clauses attached quiet =
    subst (λ (t : TrailState). IsAttachedTo c.jumped.new.self clauses t.entries) (sym c.take_off.ensures.trail)
    (jumped_attached c.args.rounds.now c.jumped.new.self clauses c.args.trail.now.entries c.args.level
    (subst (λ (t : TrailState). TellsCut c.args.rounds.now c.jumped.new.self t.entries) c.take_off.ensures.trail c.jumped.ensures.cut)
    (subst (λ (t : TrailState). TellsAbove c.args.rounds.now c.jumped.new.self t.entries) c.take_off.ensures.trail c.jumped.ensures.above) attached quiet)
