use Rattle.std.proofs.Common.{◌≡◌, ◌^◌, subst, sym, ap, ◌∙◌}
use Rattle.std.specs.Prelude.{None, IsSome}
use Rattle.std.specs.List.{AllByRecursion}
use Rattle.lit_base.specs.Held.{clauses_of}
use Rattle.solo_core.specs.declared.lemma.Lemma.{Lemma}
use Rattle.solo_core.specs.Turn.{look_of}
use Rattle.solo_core.specs.State.{SearchState}
use Rattle.solo_core.specs.Searching.{AreFewUses, IsJoined, IsReady}
use Rattle.solo_core.specs.contracts.search.Search.{the_view}
use Rattle.solo_core.proofs.Learnt.{hints_held, hints_apart, lits_apart, name_free, uses_fit, after_lesson, learnt_joined}
use Rattle.solo_core.proofs.search.Search.keep.Goals as goal

-- each free variable is in the order
pub jump_back-requires-clause-same : goal.jump_back-requires-clause-same
jump_back-requires-clause-same c =
    let ready : IsReady (the_view c.self.inside) = subst IsReady (sym c.self.view_is) c.requires.ready in
    ready.joined.order.activities ∙ sym ready.joined.over.trail

pub jump_back-requires-clause-present : goal.jump_back-requires-clause-present
jump_back-requires-clause-present c =
    let ready : IsReady (the_view c.self.inside) = subst IsReady (sym c.self.view_is) c.requires.ready in
    ready.joined.order.present

-- the lemma's name is free
pub hold_lemma-requires-clause-free : goal.hold_lemma-requires-clause-free
hold_lemma-requires-clause-free c =
    subst (λ (s : SearchState). look_of s.state c.next_name.result ≡ None) (sym c.self.view_is)
    (ap (λ name. look_of c.args.self.now.state name) c.next_name.ensures.name ∙ name_free c.args.self.now c.requires.ready)

-- the literals are distinct
pub hold_lemma-requires-clause-distinct : goal.hold_lemma-requires-clause-distinct
hold_lemma-requires-clause-distinct c =
    lits_apart c.args.self.now c.args.lesson (record { ready = c.requires.ready; taught = c.requires.lesson; above = c.requires.above })

-- the hints are held, and distinct
pub hold_lemma-requires-clause-held : goal.hold_lemma-requires-clause-held
hold_lemma-requires-clause-held c =
    subst (λ (s : SearchState). AllByRecursion (λ hint. IsSome (look_of s.state hint)) c.args.lesson.hints) (sym c.self.view_is)
    (hints_held c.args.self.now c.args.lesson (record { ready = c.requires.ready; taught = c.requires.lesson; above = c.requires.above }))

pub hold_lemma-requires-clause-hints_distinct : goal.hold_lemma-requires-clause-hints_distinct
hold_lemma-requires-clause-hints_distinct c =
    hints_apart c.args.self.now c.args.lesson (record { ready = c.requires.ready; taught = c.requires.lesson; above = c.requires.above })

-- and their uses are few
pub hold_lemma-requires-clause-few : goal.hold_lemma-requires-clause-few
hold_lemma-requires-clause-few c =
    subst (λ (s : SearchState). AreFewUses (2 ^ 32) s.state.clauses) (sym c.self.view_is) (uses_fit c.args.self.now c.requires.ready c.next_name.ensures.few)

-- propagation goes over the held clauses after the jump
pub hold_lemma-requires-clause-attached : goal.hold_lemma-requires-clause-attached
hold_lemma-requires-clause-attached c =
    let ready : IsReady (the_view c.self.inside) = subst IsReady (sym c.self.view_is) c.requires.ready in
    c.jump_back.ensures.attached (clauses_of c.self.inside.pool.held) ready.joined.attached ready.sound.holds.quiet

-- the parts fit one another
pub returns-clause-joined : goal.returns-clause-joined
returns-clause-joined c =
    let ready : IsReady (the_view c.self.inside) = subst IsReady (sym c.self.view_is) c.requires.ready in
    let lemma : Lemma = record { name = c.next_name.result; lits = c.args.lesson.lits; hints = c.args.lesson.hints } in
    let is : c.record_lemma.new.self ≡ after_lesson (the_view c.self.inside) c.hold_lemma.new.rounds c.hold_lemma.new.pool c.jump_back.new.trail c.jump_back.new.order lemma = c.in_ok-record_lemma.ensures in
    subst IsJoined (sym is)
    (learnt_joined (the_view c.self.inside) c.hold_lemma.new.rounds c.hold_lemma.new.pool c.jump_back.new.trail c.jump_back.new.order lemma c.args.lesson.back ready c.jump_back.ensures.trail
    c.in_ok-hold_lemma.ensures.pool (c.in_ok-hold_lemma.ensures.variables ∙ c.jump_back.ensures.variables) c.in_ok-hold_lemma.ensures.attached c.in_ok-hold_lemma.ensures.placed c.jump_back.ensures.activities c.jump_back.ensures.present)

-- and its places are remembered
pub hold_lemma-requires-clause-placed : goal.hold_lemma-requires-clause-placed
hold_lemma-requires-clause-placed c =
    let ready : IsReady (the_view c.self.inside) = subst IsReady (sym c.self.view_is) c.requires.ready in
    c.jump_back.ensures.placed c.self.inside.pool.added ready.joined.placed
