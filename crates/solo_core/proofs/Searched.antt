-- A search that makes its turns one after the other.
use Rattle.std.proofs.Common.{◌≡◌, ℕ, suc, ◌==◌, ◌<◌, refl, ap, sym, ◌∙◌, subst, arith}
use Rattle.std.specs.Prelude.{Option, Some, None, Result, Ok, Err, OnOk}
use Rattle.std.proofs.lemmas.Bool.{cond_both, cond-false, ne_eqb}
use Rattle.lit_base.specs.Literal.{Literal}
use Rattle.lit_base.specs.Trail.{level_now}
use Rattle.lit_base.specs.Fits.{IsConflict}
use Rattle.lit_base.specs.Analysis.{lesson_of}
use Rattle.lit_base.specs.declared.name.Name.{Name}
use Rattle.lit_base.specs.declared.lesson.Lesson.{Lesson}
use Rattle.round_prop.specs.Found.{found_of}
use Rattle.round_prop.specs.declared.found.Found.TheVariants.{Conflict}
use Rattle.solo_core.specs.State.{CoreFrame, CoreState, SearchState}
use Rattle.solo_core.specs.Turn.{Turned, look_of, propagated, picked, learnt, refuted, taught, chosen, turn_by, turn}
use Rattle.solo_core.specs.declared.turn.TurnEnd.{TurnEnd}
use Rattle.solo_core.specs.declared.turn.TurnEnd.TheVariants.{Decided, Learnt, Refuted, Modelled}
use Rattle.solo_core.specs.Changes.{after_propagation}
use Rattle.solo_core.specs.Stretch.{after_turn, search_to_conflict}
use Rattle.solo_core.specs.Searching.{IsJoined, IsReady, IsSearchAt}
use Rattle.solo_core.specs.Soundness.{IsSound}
use Rattle.solo_core.proofs.Joined.{at_search, of_search}
use Rattle.solo_core.proofs.SoundSteps.{propagated_sound}
use Rattle.solo_core.proofs.SoundStretch.{propagated_conflict, turn_sound}

-- the name of the conflict that was found
pub conflict_found : (o : Option Name) (name : Name) → Conflict name ≡ found_of o → o ≡ Some name
conflict_found None name is = cc
conflict_found (Some other) name is = cc

-- a search is ready still after propagation
pub propagated_ready : (s after : SearchState) → IsReady s → IsSearchAt s.frame (after_propagation s.frame s.state) after → IsJoined after → IsReady after
propagated_ready s after ready is joined = record {
  base = ready.base;
  sound = at_search (λ f k. IsSound ready.base f k) s.frame (after_propagation s.frame s.state) after is (propagated_sound ready.base s.frame s.state ready.sound);
  joined = joined;
  left = at_search (λ f k. k.conflicts < f.limit) s.frame (after_propagation s.frame s.state) after is ready.left;
}

-- the conflict that propagation finds is one on the trail
pub conflict_stands : (s after : SearchState) (name : Name) → IsReady s → IsSearchAt s.frame (after_propagation s.frame s.state) after →
    Conflict name ≡ found_of (propagated s.frame s.state).conflict → IsConflict (look_of after.state) after.state.trail name
conflict_stands s after name ready is found =
    at_search (λ f k. IsConflict (look_of k) k.trail name) s.frame (after_propagation s.frame s.state) after is
    (propagated_conflict ready.base s.frame s.state name ready.sound (conflict_found (propagated s.frame s.state).conflict name found))

-- what the conflict teaches is what the turn comes to
conflict_turned : (s found after : SearchState) (name : Name) → IsSearchAt s.frame (after_propagation s.frame s.state) found → Conflict name ≡ found_of (propagated s.frame s.state).conflict →
    IsSearchAt found.frame (taught found.frame found.state (lesson_of (look_of found.state) found.state.trail name)).state after → IsSearchAt s.frame (turn s.frame s.state).state after
conflict_turned s found after name is conflict taught_is =
    let moved = after_propagation s.frame s.state in
    subst (λ o. IsSearchAt s.frame (turn_by s.frame moved o).state after) (sym (conflict_found (propagated s.frame s.state).conflict name conflict))
    (of_search (λ f k. IsSearchAt f (taught f k (lesson_of (look_of k) k.trail name)).state after) s.frame moved found is taught_is)

-- the same of an attempt to learn from it
pub conflict_turned-on_ok : {T E : Type 0} (r : Result T E) (s found after : SearchState) (name : Name) → IsSearchAt s.frame (after_propagation s.frame s.state) found →
    Conflict name ≡ found_of (propagated s.frame s.state).conflict →
    OnOk r (IsSearchAt found.frame (taught found.frame found.state (lesson_of (look_of found.state) found.state.trail name)).state after) →
    OnOk r (IsSearchAt s.frame (turn s.frame s.state).state after)
conflict_turned-on_ok (Ok x) s found after name is conflict taught_is = conflict_turned s found after name is conflict taught_is
conflict_turned-on_ok (Err e) s found after name is conflict taught_is = tt

-- above level 0 a lesson is learnt
pub taught_above : (frame : CoreFrame) (state : CoreState) (lesson : Lesson) → (level_now state.trail ≡ 0 → ⊥) → (taught frame state lesson).state ≡ learnt frame lesson state
taught_above frame state lesson above =
    ap (λ (t : Turned). t.state)
    (cond-false (level_now state.trail == 0) (record { state = refuted frame lesson state; came_to = Refuted }) (record { state = learnt frame lesson state; came_to = Learnt })
    (ne_eqb (level_now state.trail) 0 above))

-- a turn that decides has no conflict
abbrev CountsNone : CoreState → Turned → Type 0
CountsNone state t = t.came_to ≡ Decided → t.state.conflicts ≡ state.conflicts

chosen_counts : (state : CoreState) (o : Option Literal) → CountsNone state (chosen state o)
chosen_counts state None is = refl
chosen_counts state (Some l) is = refl

taught_counts : (frame : CoreFrame) (state : CoreState) (lesson : Lesson) → CountsNone state (taught frame state lesson)
taught_counts frame state lesson =
    cond_both (level_now state.trail == 0) (record { state = refuted frame lesson state; came_to = Refuted }) (record { state = learnt frame lesson state; came_to = Learnt }) (CountsNone state)
    (λ root is. cc) (λ above is. cc)

turn_by_counts : (frame : CoreFrame) (state : CoreState) (o : Option Name) → CountsNone state (turn_by frame state o)
turn_by_counts frame state None = chosen_counts state (picked frame state)
turn_by_counts frame state (Some conflict) = taught_counts frame state (lesson_of (look_of state) state.trail conflict)

turn_counts : (frame : CoreFrame) (state : CoreState) → CountsNone state (turn frame state)
turn_counts frame state = turn_by_counts frame (after_propagation frame state) (propagated frame state).conflict

-- a search is ready still after a decision
pub decided_ready : (s after : SearchState) → IsReady s → IsSearchAt s.frame (turn s.frame s.state).state after → IsJoined after → (turn s.frame s.state).came_to ≡ Decided → IsReady after
decided_ready s after ready is joined end = record {
  base = ready.base;
  sound = at_search (λ f k. IsSound ready.base f k) s.frame (turn s.frame s.state).state after is
      (turn_sound ready.base s.frame s.state ready.sound (λ other. let clash : Decided ≡ Refuted = sym end ∙ other in cc));
  joined = joined;
  left = at_search (λ f k. k.conflicts < f.limit) s.frame (turn s.frame s.state).state after is (omega (arith, turn_counts s.frame s.state end, ready.left));
}

-- what the turns so far leave of a search: it is ready, and the turns to come end where the whole search ends
pub record IsSearching (frame : CoreFrame) (whole : Turned) (left : ℕ) (s : SearchState) : Type 0 where
  pub ready : IsReady s
  pub frame_is : s.frame ≡ frame
  pub rest : search_to_conflict left s.frame s.state ≡ whole

-- the turns to come are this one and the others
unrolled : (frame : CoreFrame) (whole : Turned) (left less : ℕ) (s : SearchState) → left ≡ suc less → IsSearching frame whole left s →
    after_turn (search_to_conflict less s.frame) (turn s.frame s.state).state (turn s.frame s.state).came_to ≡ whole
unrolled frame whole left less s is searching = ap (λ n. search_to_conflict n s.frame s.state) (sym is) ∙ searching.rest

-- a turn that decides is followed by the others
pub goes_on : (frame : CoreFrame) (whole : Turned) (left less : ℕ) (s after : SearchState) → left ≡ suc less → IsSearching frame whole left s → IsSearchAt s.frame (turn s.frame s.state).state after →
    IsJoined after → Decided ≡ (turn s.frame s.state).came_to → IsSearching frame whole less after
goes_on frame whole left less s after is searching turned joined end = record {
  ready = decided_ready s after searching.ready turned joined (sym end);
  frame_is = turned.0 ∙ searching.frame_is;
  rest = at_search (λ f k. search_to_conflict less f k ≡ whole) s.frame (turn s.frame s.state).state after turned
      (ap (λ e. after_turn (search_to_conflict less s.frame) (turn s.frame s.state).state e) end ∙ unrolled frame whole left less s is searching);
}

other_ends : (more : CoreState → Turned) (state : CoreState) (e : TurnEnd) → (e ≡ Decided → ⊥) → after_turn more state e ≡ record { state = state; came_to = e }
other_ends more state Decided other = absurd (other refl)
other_ends more state Learnt other = refl
other_ends more state Refuted other = refl
other_ends more state Modelled other = refl

-- where a search ended
pub record HasSearched (frame : CoreFrame) (whole : Turned) (after : SearchState) (e : TurnEnd) : Type 0 where
  pub at : IsSearchAt frame whole.state after
  pub end : e ≡ whole.came_to

-- a turn that comes to no decision ends the search
pub leaves : (frame : CoreFrame) (whole : Turned) (left less : ℕ) (s after : SearchState) (e : TurnEnd) → left ≡ suc less → IsSearching frame whole left s →
    IsSearchAt s.frame (turn s.frame s.state).state after → e ≡ (turn s.frame s.state).came_to → (e ≡ Decided → ⊥) → HasSearched frame whole after e
leaves frame whole left less s after e is searching turned end other =
    let t = turn s.frame s.state in
    let ended : record t { came_to = e } ≡ whole =
    sym (other_ends (search_to_conflict less s.frame) t.state e other) ∙ (ap (λ d. after_turn (search_to_conflict less s.frame) t.state d) end ∙ unrolled frame whole left less s is searching) in
    record {
      at = (turned.0 ∙ searching.frame_is, turned.1 ∙ ap (λ (w : Turned). w.state) ended);
      end = ap (λ (w : Turned). w.came_to) ended;
    }
