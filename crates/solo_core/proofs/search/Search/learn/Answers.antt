use Rattle.std.proofs.Common.{◌≡◌, ◌==◌, ◌+◌, List, ℕ, length, refl, sym, ◌∙◌, subst}
use Rattle.std.specs.List.{IsDistinct}
use Rattle.solo_core.specs.State.{SearchState}
use Rattle.solo_core.specs.Turn.{jumped_back}
use Rattle.solo_core.specs.Soundness.{IsSound}
use Rattle.solo_core.specs.Searching.{AreVariables, IsJoined}
use Rattle.solo_core.proofs.Joined.{at_search}
use Rattle.solo_core.proofs.Learnt.{MayLearn, touched_apart, kept_sound, kept_weights, kept_touched, weighed_joined, learnt_at-on_ok}
use Rattle.solo_core.proofs.SoundPaced.{weighed_sound}
use Rattle.solo_core.proofs.search.Search.learn.Goals as goal

-- what was touched is distinct variables
pub weigh-requires-clause-within : goal.weigh-requires-clause-within
weigh-requires-clause-within c =
    let s = c.args.self.now in
    let may : MayLearn s c.args.lesson = record { ready = c.requires.ready; taught = c.requires.lesson; above = c.requires.above } in
    subst (λ (vs : List ℕ). AreVariables (length c.keep.new.self.state.activities) vs) (sym (c.as_slice.ensures ∙ c.in_ok-touched.ensures.touched))
    (kept_touched s c.keep.new.self c.args.lesson may c.in_ok-touched.ensures.state)

pub weigh-requires-clause-distinct : goal.weigh-requires-clause-distinct
weigh-requires-clause-distinct c =
    let s = c.args.self.now in
    let may : MayLearn s c.args.lesson = record { ready = c.requires.ready; taught = c.requires.lesson; above = c.requires.above } in
    subst (λ (vs : List ℕ). IsDistinct (λ v w. v == w) vs) (sym (c.as_slice.ensures ∙ c.in_ok-touched.ensures.touched)) (touched_apart s c.args.lesson may)

-- activities don't matter to what is sound
pub pace-requires-clause-sound : goal.pace-requires-clause-sound
pace-requires-clause-sound c =
    let s = c.args.self.now in
    let kept = c.keep.new.self in
    let may : MayLearn s c.args.lesson = record { ready = c.requires.ready; taught = c.requires.lesson; above = c.requires.above } in (
      c.requires.ready.base,
      subst (λ (w : SearchState). IsSound c.requires.ready.base w.frame w.state) (sym c.weigh.ensures)
          (weighed_sound c.requires.ready.base kept.frame c.as_slice.result.now kept.state (kept_sound s kept c.args.lesson may c.in_ok-touched.ensures.state)),
    )

-- none has passed its bound
pub pace-requires-clause-joined : goal.pace-requires-clause-joined
pace-requires-clause-joined c =
    let s = c.args.self.now in
    let kept = c.keep.new.self in
    let may : MayLearn s c.args.lesson = record { ready = c.requires.ready; taught = c.requires.lesson; above = c.requires.above } in
    let touched_is = c.as_slice.ensures ∙ c.in_ok-touched.ensures.touched in
    subst IsJoined (sym c.weigh.ensures)
    (weighed_joined kept s.state.conflicts c.as_slice.result.now c.in_ok-touched.ensures.joined
    (at_search (λ f k. k.conflicts ≡ s.state.conflicts + 1) s.frame (jumped_back s.frame c.args.lesson s.state) kept c.in_ok-touched.ensures.state refl)
    (kept_weights s kept c.args.lesson c.requires.ready c.in_ok-touched.ensures.state)
    (subst (λ (vs : List ℕ). IsDistinct (λ v w. v == w) vs) (sym touched_is) (touched_apart s c.args.lesson may))
    (subst (λ (vs : List ℕ). AreVariables (length kept.state.activities) vs) (sym touched_is) (kept_touched s kept c.args.lesson may c.in_ok-touched.ensures.state)))

-- the lesson is learnt
pub returns-clause-state : goal.returns-clause-state
returns-clause-state c =
    learnt_at-on_ok c.pace.result c.args.self.now c.keep.new.self c.weigh.new.self c.pace.new.self c.args.lesson c.as_slice.result.now c.in_ok-touched.ensures.state
    (c.as_slice.ensures ∙ c.in_ok-touched.ensures.touched) c.weigh.ensures c.pace.ensures.state
