use Rattle.std.proofs.Common.{◌+◌, ◌*◌, ◌<◌, ◌∙◌, refl, subst, sym, arith}
use Rattle.lit_base.specs.Held.{without_names, volume_of}
use Rattle.solo_core.specs.State.{SearchState}
use Rattle.solo_core.specs.Searching.{AreFewUses, IsJoined, IsSearchAt}
use Rattle.solo_core.specs.Turn.{reduced}
use Rattle.solo_core.specs.contracts.search.Search.{the_view}
use Rattle.solo_core.proofs.Dropped.{few_uses-cleared, reduced_is}
use Rattle.solo_core.proofs.Joined.{dropped_joined}
use Rattle.solo_core.proofs.search.Search.reduce.Goals as goal

-- the parts fit one another
pub returns-clause-joined : goal.returns-clause-joined
returns-clause-joined c =
    let joined : IsJoined (the_view c.self.inside) = subst IsJoined (sym c.self.view_is) c.requires.joined in
    let fewer : c.self.inside.reductions < c.self.inside.tempo.t = subst (λ (s : SearchState). s.state.reductions < s.state.tempo.t) (sym c.self.view_is) c.requires.restarts in
    dropped_joined (the_view c.self.inside) c.drop_clauses.new.rounds c.drop_clauses.new.pool.held c.drop_clauses.new.pool.added (c.self.inside.reductions + 1) joined
    (subst (AreFewUses c.self.inside.conflicts) (sym c.drop_clauses.ensures.pool) (few_uses-cleared c.self.inside.conflicts (without_names c.as_slice.result.now c.self.inside.pool.held)))
    c.drop_clauses.ensures.variables (c.drop_clauses.ensures.attached c.self.inside.trail.entries joined.attached) c.drop_clauses.ensures.placed (omega (arith, fewer))

-- the clauses that the rule chooses are dropped
pub returns-clause-state : goal.returns-clause-state
returns-clause-state c =
    let state = (the_view c.self.inside).state in
    let due : 2000 + 500 * state.reductions < volume_of state.clauses = omega (arith, c.if-volume-from.false, c.volume.ensures.value, c.from.ensures) in
    let is = reduced_is state c.drop_clauses.new.pool.held c.as_slice.result.now due (c.as_slice.ensures ∙ c.in_ok-names.ensures.names) c.drop_clauses.ensures.pool in
    subst (λ (s : SearchState). IsSearchAt s.frame (reduced s.state) (the_view (record c.self.inside { pool = c.drop_clauses.new.pool; rounds = c.drop_clauses.new.rounds; reductions = c.self.inside.reductions + 1 })))
    c.self.view_is (refl, is)
