-- What a turn, a search and a stretch keep and leave.
use Rattle.std.proofs.Common.{◌≡◌, ℕ, zero, suc, ◌==◌, ◌+◌, ◌<◌, Bool, true, false, cond, List, [], ◌∷◌, ◌++◌, All, refl, ap, subst, arith}
use Rattle.std.specs.Prelude.{Option, Some, None, option_map, IsTrue, length}
use Rattle.std.specs.List.{AllByRecursion}
use Rattle.std.proofs.lemmas.Bool.{cond_both, eqb-true, eqb-false}
use Rattle.std.proofs.lemmas.List.Elements.{All-head, All-tail}
use Rattle.lit_base.specs.Literal.{Literal, IsWithin}
use Rattle.lit_base.specs.Cnf.{Cnf}
use Rattle.lit_base.specs.Truth.{is_clause_true}
use Rattle.lit_base.specs.Trail.{is_full, model_of, level_now}
use Rattle.lit_base.specs.Rounds.{NamedClause}
use Rattle.lit_base.specs.Named.{lits_at}
use Rattle.lit_base.specs.Held.{clauses_of}
use Rattle.lit_base.specs.Fits.{IsAnswer, IsConflict}
use Rattle.lit_base.specs.Quiet.{AreQuiet, HasTwoOfLevel, IsAsserting}
use Rattle.lit_base.specs.Analysis.{lesson_of}
use Rattle.lit_base.specs.declared.trail.Entry.{Entry}
use Rattle.lit_base.specs.declared.name.Name.{Name}
use Rattle.lit_base.proofs.FullTrail.{clause_true}
use Rattle.lit_base.proofs.PropagationFits.{propagation_fits}
use Rattle.lit_base.proofs.FixIsQuiet.{fix_quiet}
use Rattle.lit_base.proofs.RootLesson.{root_lesson_empty}
use Rattle.var_order.specs.Order.{best_of}
use Rattle.var_order.proofs.Best.{best_of-some, best_of-none}
use Rattle.solo_core.proofs.Derived.{derived_by_more, derived_one_more, named_one_more, distinct_one_more, within_one_more}
use Rattle.solo_core.proofs.SoundSteps.{propagated_sound, decided_sound, jumped_sound}
use Rattle.solo_core.proofs.SoundLearnt.{lesson_few, lesson_derived, conflict_two, conflict_asserting}
use Rattle.solo_core.proofs.SoundPaced.{learnt_sound, learnt_holds}
use Rattle.solo_core.specs.State.{CoreFrame, CoreState, lemma_name, lemma_clauses}
use Rattle.solo_core.specs.Turn.{Turned, look_of, propagated, last_literal, lemma_of, learnt, refuted, taught, chosen, turn_by, turn}
use Rattle.solo_core.specs.declared.turn.TurnEnd.{TurnEnd}
use Rattle.solo_core.specs.declared.turn.TurnEnd.TheVariants.{Decided, Learnt, Refuted, Modelled}
use Rattle.solo_core.specs.Stretch.{Stretched, after_turn, search_to_conflict, ended_at_root, after_search, search_to_quota, stretch}
use Rattle.solo_core.specs.Changes.{after_propagation}
use Rattle.solo_core.specs.Soundness.{AreDerived, AreNamed, AreLemmasDistinct, AreLemmasWithin, IsSound, EndsEmpty, IsModelFound, HoldsFormula}
use Rattle.solo_core.specs.declared.sheet.End.{End}
use Rattle.solo_core.specs.declared.sheet.End.TheVariants.{Quota, Sat, Unsat, Spent}

-- what a refutation leaves
pub record IsRefuted (base : List NamedClause) (frame : CoreFrame) (state : CoreState) : Type 0 where
  pub derived : AreDerived base state.lemmas
  pub named : AreNamed state.period frame.core 0 state.lemmas
  pub lemmas_distinct : AreLemmasDistinct state.lemmas
  pub lemmas_within : AreLemmasWithin frame.variables state.lemmas
  pub ends : EndsEmpty state.lemmas

-- what a turn leaves, by what it came to
abbrev pub IsTurnSound : List NamedClause → CoreFrame → CoreState → TurnEnd → Type 0
IsTurnSound base frame state Decided = IsSound base frame state
IsTurnSound base frame state Learnt = IsSound base frame state
IsTurnSound base frame state Modelled = IsSound base frame state × IsModelFound frame state
IsTurnSound base frame state Refuted = IsRefuted base frame state

-- a formula that was held is held
abbrev pub KeepsFormulas : CoreState → CoreState → Type 0
KeepsFormulas before after = (cnf : Cnf) → HoldsFormula cnf before → HoldsFormula cnf after

-- what a turn or a search keeps and leaves
pub record IsTurnKept (base : List NamedClause) (frame : CoreFrame) (before : CoreState) (t : Turned) : Type 0 where
  pub sound : IsTurnSound base frame t.state t.came_to
  pub formulas : KeepsFormulas before t.state

-- a full trail on which no clause is falsified makes each clause true
clauses_true : (n : ℕ) (trail : List Entry) (clauses : List NamedClause) → is_full n trail ≡ true → All (λ c. All (IsWithin n) c.lits) clauses → AreQuiet trail clauses →
    AllByRecursion (λ c. IsTrue (is_clause_true (model_of n trail) c.lits)) clauses
clauses_true n trail [] full within quiet = tt
clauses_true n trail (c ∷ others) full within quiet = (
  clause_true n trail c.lits full (All-head (λ d. All (IsWithin n) d.lits) c others within) quiet.0.not_falsified,
  clauses_true n trail others full (All-tail (λ d. All (IsWithin n) d.lits) c others within) quiet.1,
)

-- after propagation without a conflict: a decision of a free variable, or a model
chosen_kept : (base : List NamedClause) (frame : CoreFrame) (state : CoreState) → IsSound base frame state → (propagated frame state).conflict ≡ None → (o : Option ℕ) →
    best_of frame.variables state.activities (propagated frame state).trail ≡ o →
    IsTurnKept base frame state (chosen (after_propagation frame state) (option_map (last_literal frame (after_propagation frame state)) o))
chosen_kept base frame state sound none None full =
    let moved = propagated_sound base frame state sound in
    let is : is_full frame.variables (propagated frame state).trail ≡ true = best_of-none frame.variables state.activities (propagated frame state).trail full in
    let quiet = fix_quiet frame.variables (clauses_of state.clauses) state.trail sound.holds.within none in
    record {
      sound = (moved, record { full = is; satisfied = clauses_true frame.variables (propagated frame state).trail (clauses_of state.clauses) is sound.holds.within quiet });
      formulas = λ cnf holds. holds;
    }
chosen_kept base frame state sound none (Some v) found =
    let best = best_of-some frame.variables state.activities (propagated frame state).trail v found in
    record {
      sound = decided_sound base frame state (last_literal frame (after_propagation frame state) v) sound none (best.0, best.1) best.2;
      formulas = λ cnf holds. holds;
    }

-- a conflict at level 0 refutes
refuted_sound : (base : List NamedClause) (frame : CoreFrame) (state : CoreState) (conflict : Name) → IsSound base frame state → IsConflict (look_of state) state.trail conflict → level_now state.trail ≡ 0 →
    IsRefuted base frame (refuted frame (lesson_of (look_of state) state.trail conflict) state)
refuted_sound base frame state conflict sound is root =
    let lesson = lesson_of (look_of state) state.trail conflict in
    let lemma = lemma_of frame state lesson in
    let few = lesson_few base frame state conflict sound in
    record {
      derived = derived_one_more base state.lemmas lemma sound.derives.derived
          (derived_by_more (look_of state) (lits_at (base ++ lemma_clauses state.lemmas)) lemma sound.derives.carried (lesson_derived base frame state conflict sound is));
      named = named_one_more state.period frame.core 0 state.lemmas lemma sound.derives.named (ap (λ place. lemma_name state.period frame.core place) (let e : length state.lemmas ≡ 0 + length state.lemmas = omega arith in e));
      lemmas_distinct = distinct_one_more state.lemmas lemma sound.derives.lemmas_distinct few.distinct;
      lemmas_within = within_one_more frame.variables state.lemmas lemma sound.derives.lemmas_within few.within;
      ends = record { earlier = state.lemmas; last = lemma; split = refl; empty = root_lesson_empty (look_of state) state.trail conflict sound.holds.fitting.leveled root; none_before = sound.derives.none_empty };
    }

-- what a conflict leaves
taught_kept : (base : List NamedClause) (frame : CoreFrame) (state : CoreState) (conflict : Name) → IsSound base frame state → IsConflict (look_of state) state.trail conflict →
    IsTurnKept base frame state (taught frame state (lesson_of (look_of state) state.trail conflict))
taught_kept base frame state conflict sound is =
    let lesson = lesson_of (look_of state) state.trail conflict in
    cond_both (level_now state.trail == 0) (record { state = refuted frame lesson state; came_to = Refuted }) (record { state = learnt frame lesson state; came_to = Learnt }) (IsTurnKept base frame state)
    (λ root. record { sound = refuted_sound base frame state conflict sound is (eqb-true (level_now state.trail) 0 root); formulas = λ cnf holds. holds })
    (λ above. record {
      sound = learnt_sound base frame state lesson sound (conflict_asserting base frame state conflict sound is (let high : level_now state.trail ≡ 0 → ⊥ = eqb-false (level_now state.trail) 0 above in omega (arith, high)))
          (lesson_few base frame state conflict sound) (lesson_derived base frame state conflict sound is);
      formulas = λ cnf holds. learnt_holds cnf base frame state lesson sound holds;
    })

-- the conflict that propagation answers is one on the trail that it leaves
pub propagated_conflict : (base : List NamedClause) (frame : CoreFrame) (state : CoreState) (conflict : Name) → IsSound base frame state → (propagated frame state).conflict ≡ Some conflict →
    IsConflict (look_of state) (propagated frame state).trail conflict
propagated_conflict base frame state conflict sound is =
    subst (λ o. IsAnswer (look_of state) (propagated frame state).trail o) is (propagation_fits (look_of state) frame.variables (clauses_of state.clauses) state.trail sound.holds.found sound.holds.fitting).conflict

turn_by_kept : (base : List NamedClause) (frame : CoreFrame) (state : CoreState) → IsSound base frame state → (o : Option Name) → (propagated frame state).conflict ≡ o →
    IsTurnKept base frame state (turn_by frame (after_propagation frame state) o)
turn_by_kept base frame state sound None is = chosen_kept base frame state sound is (best_of frame.variables state.activities (propagated frame state).trail) refl
turn_by_kept base frame state sound (Some conflict) is =
    let kept = taught_kept base frame (after_propagation frame state) conflict (propagated_sound base frame state sound) (propagated_conflict base frame state conflict sound is) in
    record { sound = kept.sound; formulas = kept.formulas }

-- a conflict of propagation above level 0 has two literals of the current level, and its lesson is asserting
pub sound_conflict_two : (base : List NamedClause) (frame : CoreFrame) (state : CoreState) (conflict : Name) (lits : List Literal) → IsSound base frame state →
    (propagated frame state).conflict ≡ Some conflict → look_of state conflict ≡ Some lits → 0 < level_now (propagated frame state).trail →
    HasTwoOfLevel (propagated frame state).trail (level_now (propagated frame state).trail) lits
sound_conflict_two base frame state conflict lits sound is found above =
    conflict_two base frame (after_propagation frame state) conflict lits (propagated_sound base frame state sound) (propagated_conflict base frame state conflict sound is) found above

pub sound_conflict_asserting : (base : List NamedClause) (frame : CoreFrame) (state : CoreState) (conflict : Name) → IsSound base frame state →
    (propagated frame state).conflict ≡ Some conflict → 0 < level_now (propagated frame state).trail →
    IsAsserting (propagated frame state).trail (lesson_of (look_of state) (propagated frame state).trail conflict)
sound_conflict_asserting base frame state conflict sound is above =
    conflict_asserting base frame (after_propagation frame state) conflict (propagated_sound base frame state sound) (propagated_conflict base frame state conflict sound is) above

-- what a turn keeps and leaves
pub turn_kept : (base : List NamedClause) (frame : CoreFrame) (state : CoreState) → IsSound base frame state → IsTurnKept base frame state (turn frame state)
turn_kept base frame state sound = turn_by_kept base frame state sound (propagated frame state).conflict refl

-- a turn that doesn't refute keeps what is sound
pub turn_sound : (base : List NamedClause) (frame : CoreFrame) (state : CoreState) → IsSound base frame state → ((turn frame state).came_to ≡ Refuted → ⊥) → IsSound base frame (turn frame state).state
turn_sound base frame state sound other = by_end (turn frame state).state (turn frame state).came_to (turn_kept base frame state sound).sound other
  where
    by_end : (j : CoreState) (e : TurnEnd) → IsTurnSound base frame j e → (e ≡ Refuted → ⊥) → IsSound base frame j
    by_end j Decided is differs = is
    by_end j Learnt is differs = is
    by_end j Modelled is differs = is.0
    by_end j Refuted is differs = absurd (differs refl)

pub turn_holds : (cnf : Cnf) (base : List NamedClause) (frame : CoreFrame) (state : CoreState) → IsSound base frame state → HoldsFormula cnf state → HoldsFormula cnf (turn frame state).state
turn_holds cnf base frame state sound holds = (turn_kept base frame state sound).formulas cnf holds

after_turn_kept : (base : List NamedClause) (frame : CoreFrame) (before : CoreState) (more : CoreState → Turned) (state : CoreState) (e : TurnEnd) →
    IsTurnSound base frame state e → KeepsFormulas before state → ((j : CoreState) → IsSound base frame j → IsTurnKept base frame j (more j)) → IsTurnKept base frame before (after_turn more state e)
after_turn_kept base frame before more state Decided sound formulas rest =
    let later = rest state sound in record { sound = later.sound; formulas = λ cnf holds. later.formulas cnf (formulas cnf holds) }
after_turn_kept base frame before more state Learnt sound formulas rest = record { sound = sound; formulas = formulas }
after_turn_kept base frame before more state Modelled sound formulas rest = record { sound = sound; formulas = formulas }
after_turn_kept base frame before more state Refuted sound formulas rest = record { sound = sound; formulas = formulas }

-- what a search keeps and leaves
pub search_to_conflict_kept : (most : ℕ) (base : List NamedClause) (frame : CoreFrame) (state : CoreState) → IsSound base frame state → IsTurnKept base frame state (search_to_conflict most frame state)
search_to_conflict_kept zero base frame state sound = record { sound = sound; formulas = λ cnf holds. holds }
search_to_conflict_kept (suc most) base frame state sound =
    let one = turn_kept base frame state sound in
    after_turn_kept base frame state (search_to_conflict most frame) (turn frame state).state (turn frame state).came_to one.sound one.formulas (λ j is. search_to_conflict_kept most base frame j is)

-- what a stretch leaves, by its end
abbrev pub IsEndSound : List NamedClause → CoreFrame → CoreState → End → Type 0
IsEndSound base frame state Quota = IsSound base frame state
IsEndSound base frame state Spent = IsSound base frame state
IsEndSound base frame state Sat = IsSound base frame state × IsModelFound frame state
IsEndSound base frame state Unsat = IsRefuted base frame state

-- what a stretch keeps and leaves
pub record IsStretchKept (base : List NamedClause) (frame : CoreFrame) (before : CoreState) (s : Stretched) : Type 0 where
  pub sound : IsEndSound base frame s.state s.ended
  pub formulas : KeepsFormulas before s.state

-- a stretch that ends at level 0 with what is sound
at_root_kept : (base : List NamedClause) (frame : CoreFrame) (before state : CoreState) (more : CoreState → Stretched) → IsSound base frame state → KeepsFormulas before state →
    ((j : CoreState) → IsSound base frame j → IsStretchKept base frame j (more j)) → (b : Bool) → IsStretchKept base frame before (cond b (ended_at_root Spent state) (more state))
at_root_kept base frame before state more sound formulas rest true = record { sound = jumped_sound base frame state 0 sound; formulas = formulas }
at_root_kept base frame before state more sound formulas rest false =
    let later = rest state sound in record { sound = later.sound; formulas = λ cnf holds. later.formulas cnf (formulas cnf holds) }

after_search_kept : (base : List NamedClause) (frame : CoreFrame) (before : CoreState) (more : CoreState → Stretched) (state : CoreState) (e : TurnEnd) →
    IsTurnSound base frame state e → KeepsFormulas before state → ((j : CoreState) → IsSound base frame j → IsStretchKept base frame j (more j)) → IsStretchKept base frame before (after_search frame more state e)
after_search_kept base frame before more state Modelled sound formulas rest = record { sound = sound; formulas = formulas }
after_search_kept base frame before more state Refuted sound formulas rest = record { sound = sound; formulas = formulas }
after_search_kept base frame before more state Learnt sound formulas rest = at_root_kept base frame before state more sound formulas rest (state.conflicts == frame.limit)
after_search_kept base frame before more state Decided sound formulas rest = record { sound = jumped_sound base frame state 0 sound; formulas = formulas }

search_to_quota_kept : (quota : ℕ) (base : List NamedClause) (frame : CoreFrame) (state : CoreState) → IsSound base frame state → IsStretchKept base frame state (search_to_quota quota frame state)
search_to_quota_kept zero base frame state sound = record { sound = jumped_sound base frame state 0 sound; formulas = λ cnf holds. holds }
search_to_quota_kept (suc quota) base frame state sound =
    let one = search_to_conflict_kept (frame.variables + 1) base frame state sound in
    let t = search_to_conflict (frame.variables + 1) frame state in
    after_search_kept base frame state (search_to_quota quota frame) t.state t.came_to one.sound one.formulas (λ j is. search_to_quota_kept quota base frame j is)

-- what a stretch keeps and leaves
pub stretch_kept : (base : List NamedClause) (frame : CoreFrame) (quota : ℕ) (state : CoreState) → IsSound base frame state → IsStretchKept base frame state (stretch frame quota state)
stretch_kept base frame quota state sound =
    cond_both (state.conflicts == frame.limit) (record { state = state; ended = Spent }) (search_to_quota quota frame state) (IsStretchKept base frame state)
    (λ spent. record { sound = sound; formulas = λ cnf holds. holds })
    (λ left. search_to_quota_kept quota base frame state sound)
