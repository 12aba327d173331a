-- What a search needs for a lesson, and that its parts fit one another after it.
use Rattle.std.proofs.Common.{◌≡◌, ℕ, ◌==◌, ◌+◌, ◌^◌, ◌<◌, List, [], ◌∷◌, ◌++◌, length, length-append, sym, ◌∙◌, subst, arith}
use Rattle.std.specs.Prelude.{None, IsSome, Result, Ok, Err, OnOk}
use Rattle.std.specs.List.{AllByRecursion, IsDistinct}
use Rattle.lit_base.specs.Trail.{level_now}
use Rattle.lit_base.specs.Named.{same_name, lits_at}
use Rattle.lit_base.specs.Literal.{same}
use Rattle.lit_base.specs.Held.{clauses_of, unused, with_clause, with_uses}
use Rattle.clause_pool.specs.Spans.{PoolState}
use Rattle.round_prop.specs.Spanned.{IsPlacedIn}
use Rattle.round_prop.specs.Attached.{RoundsState, IsAttachedTo}
use Rattle.lit_base.specs.Quiet.{IsAsserting}
use Rattle.lit_base.specs.declared.lesson.Lesson.{Lesson}
use Rattle.lit_base.proofs.LessonHints.{hints_found}
use Rattle.lit_base.proofs.HintsDistinct.{hints_distinct}
use Rattle.lit_base.proofs.Passed.{lesson_bounded}
use Rattle.trail_book.specs.TrailState.{TrailState, jumped}
use Rattle.var_order.specs.Order.{OrderState, HasAllFree}
use Rattle.solo_core.specs.declared.lemma.Lemma.{Lemma}
use Rattle.solo_core.specs.State.{lemma_name, lemma_clause, lemma_clauses, SearchState, order_of}
use Rattle.solo_core.specs.Turn.{look_of, lemma_of, with_lemma, jumped_back, raised, weighed, paced, learnt}
use Rattle.solo_core.specs.Soundness.{IsDerived, IsSound}
use Rattle.solo_core.specs.Searching.{AreFewUses, AreActivitiesUpTo, AreVariables, most_activity, IsJoined, IsReady, IsLesson, IsSearchAt}
use Rattle.solo_core.proofs.Derived.{next_is_fresh}
use Rattle.solo_core.proofs.SoundClauses.{missed_before}
use Rattle.solo_core.proofs.SoundLearnt.{IsOfFew, conflict_asserting, lesson_few, lesson_derived, jumped_back_sound}
use Rattle.solo_core.proofs.Joined.{at_search, of_search, with_order, other_order, over_jumped, trail_of}
use Rattle.solo_core.proofs.RaisedActivities.{length-raised, length-halved_at, raised_up_to, halved_up_to, up_to_more}
use Rattle.solo_core.proofs.CountedUses.{few_uses-more, few_uses-counted, few_uses-with}

-- a search that may learn a lesson: one of a conflict above level 0
pub record MayLearn (s : SearchState) (lesson : Lesson) : Type 0 where
  pub ready : IsReady s
  pub taught : IsLesson s.state lesson
  pub above : 0 < level_now s.state.trail

-- the lesson is asserting
asserting : (s : SearchState) (lesson : Lesson) → MayLearn s lesson → IsAsserting s.state.trail lesson
asserting s lesson may =
    subst (IsAsserting s.state.trail) (sym may.taught.lesson_is)
    (conflict_asserting may.ready.base s.frame s.state may.taught.conflict may.ready.sound may.taught.stands may.above)

-- the hints are held, and distinct
pub hints_held : (s : SearchState) (lesson : Lesson) → MayLearn s lesson → AllByRecursion (λ hint. IsSome (look_of s.state hint)) lesson.hints
hints_held s lesson may =
    subst (λ (l : Lesson). AllByRecursion (λ hint. IsSome (look_of s.state hint)) l.hints) (sym may.taught.lesson_is)
    (hints_found (look_of s.state) s.state.trail may.taught.conflict may.ready.sound.holds.fitting.fits may.taught.stands)

pub hints_apart : (s : SearchState) (lesson : Lesson) → MayLearn s lesson → IsDistinct same_name lesson.hints
hints_apart s lesson may =
    subst (λ (l : Lesson). IsDistinct same_name l.hints) (sym may.taught.lesson_is)
    (hints_distinct (look_of s.state) s.state.trail may.taught.conflict may.ready.sound.holds.fitting may.taught.stands)

-- the literals are distinct
pub lits_apart : (s : SearchState) (lesson : Lesson) → MayLearn s lesson → IsDistinct same lesson.lits
lits_apart s lesson may =
    subst (λ (l : Lesson). IsDistinct same l.lits) (sym may.taught.lesson_is)
    (lesson_few may.ready.base s.frame s.state may.taught.conflict may.ready.sound).distinct

-- the next name isn't held
pub name_free : (s : SearchState) → IsReady s → look_of s.state (lemma_name s.state.period s.frame.core (length s.state.lemmas)) ≡ None
name_free s ready =
    missed_before (look_of s.state) (lits_at (ready.base ++ lemma_clauses s.state.lemmas)) (lemma_name s.state.period s.frame.core (length s.state.lemmas)) ready.sound.derives.carried
    (next_is_fresh ready.base s.state.period s.frame.core s.state.lemmas ready.sound.derives.fresh ready.sound.derives.named)

-- no clause has more uses than can be counted
pub uses_fit : (s : SearchState) → IsReady s → s.state.conflicts < 2 ^ 32 → AreFewUses (2 ^ 32) s.state.clauses
uses_fit s ready few = few_uses-more s.state.conflicts (2 ^ 32) s.state.clauses (omega arith) ready.joined.counts.uses

-- the search after the jump back, with these clauses held, and the lemma recorded
abbrev pub after_lesson : SearchState → RoundsState → PoolState → TrailState → OrderState → Lemma → SearchState
after_lesson s rounds pool trail order lemma = with_order order (record s {
  state = record (with_lemma lemma s.state) { clauses = pool.held; trail = trail.entries; saved = trail.saved };
  added = pool.added;
  rounds = rounds;
})

-- its parts fit one another
pub learnt_joined : (s : SearchState) (rounds : RoundsState) (pool : PoolState) (trail : TrailState) (order : OrderState) (lemma : Lemma) (level : ℕ) → IsReady s →
    trail ≡ jumped level (trail_of s) → pool.held ≡ with_uses lemma.hints (with_clause (unused (lemma_clause lemma)) s.state.clauses) →
    rounds.variables ≡ s.rounds.variables → IsAttachedTo rounds (clauses_of pool.held) trail.entries → IsPlacedIn rounds pool.added → order.activities ≡ s.state.activities → HasAllFree order trail.entries →
    IsJoined (after_lesson s rounds pool trail order lemma)
learnt_joined s rounds pool trail order lemma level ready trail_is held_is same attached placed kept present =
    let joined = ready.joined in
    record {
      over = over_jumped s.frame.variables level (trail_of s) trail s.rounds rounds s.analyser joined.over trail_is same;
      attached = attached;
      placed = placed;
      counts = record {
        uses = subst (AreFewUses (s.state.conflicts + 1)) (sym held_is)
            (few_uses-counted s.state.conflicts lemma.hints (with_clause (unused (lemma_clause lemma)) s.state.clauses) (few_uses-with s.state.conflicts (lemma_clause lemma) s.state.clauses joined.counts.uses));
        lemmas = omega (arith, length-append s.state.lemmas (lemma ∷ []), joined.counts.lemmas);
        period_conflicts = omega (arith, joined.counts.period_conflicts);
        limit = omega (arith, ready.left);
        few_conflicts = joined.counts.few_conflicts;
        row = joined.counts.row;
      };
      order = other_order s.frame.variables (order_of s) order s.state.trail trail.entries s.state.conflicts (s.state.conflicts + 1) (omega arith) joined.order kept present;
      pace = record { restarts = omega (arith, joined.pace.restarts); reductions = joined.pace.reductions };
    }

-- what was touched is distinct variables
pub touched_apart : (s : SearchState) (lesson : Lesson) → MayLearn s lesson → IsDistinct (λ v w. v == w) lesson.touched
touched_apart s lesson may =
    subst (λ (l : Lesson). IsDistinct (λ v w. v == w) l.touched) (sym may.taught.lesson_is)
    (lesson_bounded s.frame.variables (look_of s.state) s.state.trail may.taught.conflict may.ready.sound.holds.fitting may.ready.sound.holds.trail_within).touched_distinct

pub touched_variables : (s : SearchState) (lesson : Lesson) → MayLearn s lesson → AreVariables s.frame.variables lesson.touched
touched_variables s lesson may =
    subst (λ (l : Lesson). AreVariables s.frame.variables l.touched) (sym may.taught.lesson_is)
    (lesson_bounded s.frame.variables (look_of s.state) s.state.trail may.taught.conflict may.ready.sound.holds.fitting may.ready.sound.holds.trail_within).touched_within

-- the search after the lemma was held and the jump was made is sound
pub kept_sound : (s after : SearchState) (lesson : Lesson) (may : MayLearn s lesson) → IsSearchAt s.frame (jumped_back s.frame lesson s.state) after → IsSound may.ready.base after.frame after.state
kept_sound s after lesson may is =
    at_search (λ f k. IsSound may.ready.base f k) s.frame (jumped_back s.frame lesson s.state) after is
    (jumped_back_sound may.ready.base s.frame s.state lesson may.ready.sound (asserting s lesson may)
    (subst (IsOfFew s.frame) (sym may.taught.lesson_is) (lesson_few may.ready.base s.frame s.state may.taught.conflict may.ready.sound))
    (subst (λ (l : Lesson). IsDerived (look_of s.state) (lemma_of s.frame s.state l)) (sym may.taught.lesson_is)
    (lesson_derived may.ready.base s.frame s.state may.taught.conflict may.ready.sound may.taught.stands)))

-- its activities are those before the conflict
pub kept_weights : (s after : SearchState) (lesson : Lesson) → IsReady s → IsSearchAt s.frame (jumped_back s.frame lesson s.state) after →
    AreActivitiesUpTo (most_activity s.state.conflicts) after.state.activities
kept_weights s after lesson ready is =
    at_search (λ f k. AreActivitiesUpTo (most_activity s.state.conflicts) k.activities) s.frame (jumped_back s.frame lesson s.state) after is ready.joined.order.weights

-- so they can be raised
pub kept_few : (s after : SearchState) (lesson : Lesson) → IsReady s → IsSearchAt s.frame (jumped_back s.frame lesson s.state) after → AreActivitiesUpTo (2 ^ 63) after.state.activities
kept_few s after lesson ready is =
    up_to_more (most_activity s.state.conflicts) (2 ^ 63) after.state.activities (omega (arith, ready.joined.counts.limit, ready.joined.counts.few_conflicts)) (kept_weights s after lesson ready is)

-- the touched variables have activities there
pub kept_touched : (s after : SearchState) (lesson : Lesson) → MayLearn s lesson → IsSearchAt s.frame (jumped_back s.frame lesson s.state) after → AreVariables (length after.state.activities) lesson.touched
kept_touched s after lesson may is =
    at_search (λ f k. AreVariables (length k.activities) lesson.touched) s.frame (jumped_back s.frame lesson s.state) after is
    (subst (λ n. AreVariables n lesson.touched) (sym may.ready.joined.order.activities) (touched_variables s lesson may))

-- the parts of a search fit one another after its activities were raised and halved
pub weighed_joined : (s : SearchState) (before : ℕ) (touched : List ℕ) → IsJoined s → s.state.conflicts ≡ before + 1 → AreActivitiesUpTo (most_activity before) s.state.activities →
    IsDistinct (λ v w. v == w) touched → AreVariables (length s.state.activities) touched → IsJoined (record s { state = weighed s.frame touched s.state })
weighed_joined s before touched joined counted few apart within = record {
  over = joined.over;
  attached = joined.attached;
  placed = joined.placed;
  counts = joined.counts;
  order = record {
    activities = same ∙ joined.order.activities;
    present = λ v some low free. joined.order.present v some (omega (arith, low, same)) free;
    weights = up_to_more (most_activity before + s.frame.row.weight) (most_activity s.state.conflicts) after (omega (arith, counted, joined.counts.row.few_weight))
        (halved_up_to s.frame.row.halve s.state.conflicts (most_activity before + s.frame.row.weight) (raised s.frame.row.weight touched s.state.activities)
        (raised_up_to s.frame.row.weight (most_activity before) touched s.state.activities apart within few));
  };
  pace = joined.pace;
}
  where
    after : List ℕ
    after = (weighed s.frame touched s.state).activities

    same : length after ≡ length s.state.activities
    same = length-halved_at s.frame.row.halve s.state.conflicts (raised s.frame.row.weight touched s.state.activities) ∙ length-raised s.frame.row.weight touched s.state.activities

-- after activities and pace what was learnt is what the lesson teaches
pub learnt_at-on_ok : {T E : Type 0} (r : Result T E) (s kept heavier after : SearchState) (lesson : Lesson) (touched : List ℕ) → IsSearchAt s.frame (jumped_back s.frame lesson s.state) kept →
    touched ≡ lesson.touched → heavier ≡ record kept { state = weighed kept.frame touched kept.state } → OnOk r (IsSearchAt heavier.frame (paced heavier.state) after) →
    OnOk r (IsSearchAt s.frame (learnt s.frame lesson s.state) after)
learnt_at-on_ok (Err e) s kept heavier after lesson touched is touched_is raised_is pace = tt
learnt_at-on_ok (Ok x) s kept heavier after lesson touched is touched_is raised_is pace =
    of_search (λ f k. IsSearchAt f (paced (weighed f lesson.touched k)) after) s.frame (jumped_back s.frame lesson s.state) kept is
    (subst (λ vs. IsSearchAt kept.frame (paced (weighed kept.frame vs kept.state)) after) touched_is
    (subst (λ (w : SearchState). IsSearchAt w.frame (paced w.state) after) raised_is pace))
