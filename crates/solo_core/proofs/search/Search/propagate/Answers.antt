use Rattle.std.proofs.Common.{[], length, ap, ◌∙◌, sym, subst}
use Rattle.lit_base.specs.Rounds.{propagate}
use Rattle.lit_base.specs.Held.{clauses_of}
use Rattle.round_prop.specs.Attached.{IsAttached}
use Rattle.trail_book.specs.TrailState.{TrailState}
use Rattle.solo_core.specs.Searching.{IsJoined}
use Rattle.solo_core.specs.contracts.search.Search.{the_view}
use Rattle.solo_core.proofs.Joined.{propagated_joined}
use Rattle.solo_core.proofs.search.Search.propagate.Goals as goal

-- propagation frees no variable, and has seen all entries
pub returns-clause-joined : goal.returns-clause-joined
returns-clause-joined c =
    let joined : IsJoined (the_view c.self.inside) = subst IsJoined (sym c.self.view_is) c.requires.joined in
    let trail = c.self.inside.trail in
    let clauses = clauses_of c.self.inside.pool.held in
    subst (λ (t : TrailState). IsJoined (the_view (record c.self.inside { trail = t; rounds = c.propagate.new.rounds }))) (sym c.propagate.ensures.trail)
    (propagated_joined (the_view c.self.inside) c.propagate.new.rounds (propagate (length trail.saved) clauses trail.entries).trail joined
    (ap (λ n. (propagate n clauses trail.entries).trail) joined.over.trail) (c.propagate.ensures.variables ∙ (joined.over.trail ∙ sym joined.over.propagation))
    (subst (λ (t : TrailState). IsAttached c.propagate.new.rounds clauses [] t.entries) c.propagate.ensures.trail c.propagate.ensures.attached) c.propagate.ensures.placed)
