use Rattle.std.proofs.Common.{subst, sym}
use Rattle.lit_base.specs.Held.{clauses_of}
use Rattle.lit_base.specs.Quiet.{AreQuietBelow}
use Rattle.solo_core.specs.State.{SearchState}
use Rattle.solo_core.specs.Searching.{IsJoined}
use Rattle.solo_core.specs.contracts.search.Search.{the_view}
use Rattle.solo_core.proofs.Joined.{jumped_joined}
use Rattle.solo_core.proofs.search.Search.jump_to_root.Goals as goal

-- the parts fit one another
pub returns-clause-joined : goal.returns-clause-joined
returns-clause-joined c =
    let joined : IsJoined (the_view c.self.inside) = subst IsJoined (sym c.self.view_is) c.requires.joined in
    let quiet : AreQuietBelow c.self.inside.trail.entries (clauses_of c.self.inside.pool.held) =
    subst (λ (s : SearchState). AreQuietBelow s.state.trail (clauses_of s.state.clauses)) (sym c.self.view_is) c.requires.quiet in
    jumped_joined (the_view c.self.inside) c.jump_back.new.rounds c.jump_back.new.trail c.jump_back.new.order 0 joined c.jump_back.ensures.trail c.jump_back.ensures.variables
    (c.jump_back.ensures.attached (clauses_of c.self.inside.pool.held) joined.attached quiet) (c.jump_back.ensures.placed c.self.inside.pool.added joined.placed) c.jump_back.ensures.activities c.jump_back.ensures.present
