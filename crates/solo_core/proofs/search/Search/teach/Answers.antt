use Rattle.std.proofs.Common.{◌≡◌, sym, ◌∙◌, subst}
use Rattle.lit_base.specs.Trail.{level_now}
use Rattle.lit_base.specs.Analysis.{lesson_of}
use Rattle.lit_base.specs.declared.lesson.Lesson.{Lesson}
use Rattle.solo_core.specs.State.{SearchState}
use Rattle.solo_core.specs.Turn.{look_of, learnt, taught}
use Rattle.solo_core.specs.Searching.{IsSearchAt}
use Rattle.solo_core.specs.contracts.search.Search.{the_view}
use Rattle.solo_core.proofs.Searched.{taught_above}
use Rattle.solo_core.proofs.search.Search.teach.Goals as goal

-- above level 0 the lesson is learnt
pub returns-in_ok-learn-clause-state : goal.returns-in_ok-learn-clause-state
returns-in_ok-learn-clause-state c =
    let s = the_view c.self.inside in
    let lesson = lesson_of (look_of s.state) s.state.trail c.args.conflict in
    let above : level_now s.state.trail ≡ 0 → ⊥ = λ root. c.if-level-eq0.false (c.level.ensures.value ∙ root) in
    let at : IsSearchAt s.frame (learnt s.frame lesson s.state) c.learn.new.self =
    subst (λ (l : Lesson). IsSearchAt s.frame (learnt s.frame l s.state) c.learn.new.self) c.in_ok-lesson.ensures.lesson c.in_ok-learn.ensures.state in
    subst (λ (v : SearchState). IsSearchAt v.frame (taught v.frame v.state (lesson_of (look_of v.state) v.state.trail c.args.conflict)).state c.learn.new.self) c.self.view_is
    (at.0, at.1 ∙ sym (taught_above s.frame s.state lesson above))
