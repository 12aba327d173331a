-- Activities, restarts and reductions keep what is sound.
use Rattle.std.proofs.Common.{◌≡◌, ℕ, false, List, [], ◌∷◌, refl, ap, sym, subst}
use Rattle.std.specs.Prelude.{Option, Some, None, IsFalse, IfSome}
use Rattle.std.specs.List.{AllByRecursion}
use Rattle.std.proofs.lemmas.Bool.{cond_both}
use Rattle.std.proofs.lemmas.List.Elements.{recursion_from_All}
use Rattle.lit_base.specs.Cnf.{Cnf}
use Rattle.lit_base.specs.Rounds.{NamedClause, originals}
use Rattle.lit_base.specs.Named.{lits_at}
use Rattle.lit_base.specs.Held.{HeldClause, clause_of, clauses_of, is_among, is_original, without_names}
use Rattle.lit_base.specs.Fits.{FindsAll}
use Rattle.lit_base.specs.Quiet.{IsAsserting}
use Rattle.lit_base.specs.declared.trail.Entry.{Entry}
use Rattle.lit_base.specs.declared.name.Name.{Name}
use Rattle.lit_base.specs.declared.lesson.Lesson.{Lesson}
use Rattle.lit_base.proofs.Lists.{each_when}
use Rattle.clause_pool.specs.Uses.{cleared}
use Rattle.tempo.specs.Tempo.{is_due}
use Rattle.trim_rule.specs.Reduction.{dropped_names}
use Rattle.trim_rule.specs.Laws.{MayGo, HaveOtherReasons}
use Rattle.trim_rule.proofs.Dropped.{only_candidates_go, reasons_stay}
use Rattle.solo_core.specs.State.{CoreFrame, CoreState}
use Rattle.solo_core.specs.Turn.{look_of, lemma_of, jumped, jumped_back, weighed, is_reduction_due, after_reduction, reduced, with_tempo, paced, learnt}
use Rattle.solo_core.specs.Changes.{with_dropped, IsOther, AreNoReasons}
use Rattle.solo_core.specs.Soundness.{IsDerived, IsSound, HoldsFormula}
use Rattle.solo_core.proofs.SoundSteps.{jumped_sound, uses_sound}
use Rattle.solo_core.proofs.SoundClauses.{dropped_sound, dropped_holds}
use Rattle.solo_core.proofs.SoundLearnt.{IsOfFew, jumped_back_sound, jumped_back_holds}

-- counting uses anew changes no clause
pub clauses_of-cleared : (held : List HeldClause) → clauses_of (cleared held) ≡ clauses_of held
clauses_of-cleared [] = refl
clauses_of-cleared (c ∷ later) = ap (λ others. clause_of c ∷ others) (clauses_of-cleared later)

-- no reason is one of these names
no_reasons : (names : List Name) (trail : List Entry) → HaveOtherReasons trail names → AreNoReasons names trail
no_reasons names [] others = tt
no_reasons names (e ∷ older) others = (by_reason e.reason others.0, no_reasons names older others.1)
  where
    by_reason : (o : Option Name) → IfSome o (λ reason. is_among names reason ≡ false) → IsOther names o
    by_reason None other = tt
    by_reason (Some reason) other = other

-- what a reduction drops may go
dropped_may_go : (held : List HeldClause) (trail : List Entry) → AllByRecursion (MayGo held trail) (dropped_names held trail)
dropped_may_go held trail = recursion_from_All (MayGo held trail) (dropped_names held trail) (only_candidates_go held trail)

-- it is no reason, and no original
dropped_no_reasons : (held : List HeldClause) (trail : List Entry) → AreNoReasons (dropped_names held trail) trail
dropped_no_reasons held trail = no_reasons (dropped_names held trail) trail (reasons_stay held trail)

dropped_no_originals : (held : List HeldClause) (trail : List Entry) → AllByRecursion (λ name. IsFalse (is_original name)) (dropped_names held trail)
dropped_no_originals held trail =
    each_when (MayGo held trail) (λ name. IsFalse (is_original name)) (λ name may. may.lemma) (dropped_names held trail) (dropped_may_go held trail)

-- a reduction keeps what is sound
after_reduction_sound : (base : List NamedClause) (frame : CoreFrame) (state : CoreState) → IsSound base frame state → IsSound base frame (after_reduction state)
after_reduction_sound base frame state sound =
    let names = dropped_names state.clauses state.trail in
    let dropped = dropped_sound base frame state names sound (dropped_no_reasons state.clauses state.trail) in
    let counted = uses_sound base frame (with_dropped names state) (cleared (without_names names state.clauses)) dropped (clauses_of-cleared (without_names names state.clauses)) in
    record { holds = counted.holds; derives = counted.derives }

after_reduction_holds : (cnf : Cnf) (state : CoreState) → HoldsFormula cnf state → HoldsFormula cnf (after_reduction state)
after_reduction_holds cnf state holds =
    let names = dropped_names state.clauses state.trail in
    subst (λ cs. FindsAll (lits_at cs) (originals cnf)) (sym (clauses_of-cleared (without_names names state.clauses)))
    (dropped_holds cnf state names holds (dropped_no_originals state.clauses state.trail))

reduced_sound : (base : List NamedClause) (frame : CoreFrame) (state : CoreState) → IsSound base frame state → IsSound base frame (reduced state)
reduced_sound base frame state sound =
    cond_both (is_reduction_due state) (after_reduction state) state (IsSound base frame) (λ due. after_reduction_sound base frame state sound) (λ early. sound)

reduced_holds : (cnf : Cnf) (state : CoreState) → HoldsFormula cnf state → HoldsFormula cnf (reduced state)
reduced_holds cnf state holds =
    cond_both (is_reduction_due state) (after_reduction state) state (HoldsFormula cnf) (λ due. after_reduction_holds cnf state holds) (λ early. holds)

-- neither activities nor the tempo matter
pub weighed_sound : (base : List NamedClause) (frame : CoreFrame) (touched : List ℕ) (state : CoreState) → IsSound base frame state → IsSound base frame (weighed frame touched state)
weighed_sound base frame touched state sound = record { holds = sound.holds; derives = sound.derives }

pub with_tempo_sound : (base : List NamedClause) (frame : CoreFrame) (state : CoreState) → IsSound base frame state → IsSound base frame (with_tempo state)
with_tempo_sound base frame state sound = record { holds = sound.holds; derives = sound.derives }

-- a restart, if there is one, keeps what is sound
paced_sound : (base : List NamedClause) (frame : CoreFrame) (state : CoreState) → IsSound base frame state → IsSound base frame (paced state)
paced_sound base frame state sound =
    let counted = with_tempo_sound base frame state sound in
    cond_both (is_due state.tempo) (reduced (jumped 0 (with_tempo state))) (with_tempo state) (IsSound base frame)
    (λ due. reduced_sound base frame (jumped 0 (with_tempo state)) (jumped_sound base frame (with_tempo state) 0 counted))
    (λ early. counted)

paced_holds : (cnf : Cnf) (state : CoreState) → HoldsFormula cnf state → HoldsFormula cnf (paced state)
paced_holds cnf state holds =
    cond_both (is_due state.tempo) (reduced (jumped 0 (with_tempo state))) (with_tempo state) (HoldsFormula cnf)
    (λ due. reduced_holds cnf (jumped 0 (with_tempo state)) holds)
    (λ early. holds)

-- an asserting lesson is learnt
pub learnt_sound : (base : List NamedClause) (frame : CoreFrame) (state : CoreState) (lesson : Lesson) → IsSound base frame state → IsAsserting state.trail lesson → IsOfFew frame lesson →
    IsDerived (look_of state) (lemma_of frame state lesson) → IsSound base frame (learnt frame lesson state)
learnt_sound base frame state lesson sound asserting few derived =
    paced_sound base frame (weighed frame lesson.touched (jumped_back frame lesson state))
    (weighed_sound base frame lesson.touched (jumped_back frame lesson state) (jumped_back_sound base frame state lesson sound asserting few derived))

pub learnt_holds : (cnf : Cnf) (base : List NamedClause) (frame : CoreFrame) (state : CoreState) (lesson : Lesson) → IsSound base frame state → HoldsFormula cnf state → HoldsFormula cnf (learnt frame lesson state)
learnt_holds cnf base frame state lesson sound holds =
    paced_holds cnf (weighed frame lesson.touched (jumped_back frame lesson state)) (jumped_back_holds cnf base frame state lesson sound holds)
