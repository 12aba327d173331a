-- What a conflict leaves of a core: the lemma that it learns, or its refutation.
use Rattle.std.proofs.Common.{◌≡◌, ℕ, zero, suc, ◌+◌, ◌≤◌, ◌<◌, Bool, true, false, cond, List, [], ◌∷◌, ◌++◌, length, append_assoc, All, refl, ap, sym, ◌∙◌, subst, arith}
use Rattle.std.specs.Prelude.{Option, Some, None, option_map, find}
use Rattle.std.specs.List.{AllByRecursion, IsDistinct}
use Rattle.std.proofs.lemmas.Option.{same_Some}
use Rattle.lit_base.specs.Literal.{Literal, IsWithin, same}
use Rattle.lit_base.specs.Cnf.{Cnf}
use Rattle.lit_base.specs.Trail.{level_now}
use Rattle.lit_base.specs.Backjump.{cut}
use Rattle.lit_base.specs.Rounds.{NamedClause, originals, is_falsified}
use Rattle.lit_base.specs.Named.{same_name, lits_at}
use Rattle.lit_base.specs.Held.{HeldClause, clauses_of, with_clause, with_uses}
use Rattle.lit_base.specs.Walk.{FindsMore}
use Rattle.lit_base.specs.Fits.{FindsAll, IsFalsifiedBy, IsConflict}
use Rattle.lit_base.specs.Quiet.{IsQuiet, HasTwoOfLevel, IsAsserting}
use Rattle.lit_base.specs.Analysis.{lesson_of}
use Rattle.lit_base.specs.declared.trail.Entry.{Entry}
use Rattle.lit_base.specs.declared.name.Name.{Name}
use Rattle.lit_base.specs.declared.lesson.Lesson.{Lesson}
use Rattle.lit_base.proofs.LessonSound.{lesson_follows}
use Rattle.lit_base.proofs.LessonHints.{hints_found}
use Rattle.lit_base.proofs.Passed.{lesson_bounded}
use Rattle.lit_base.proofs.Cuts.{level_now-cut-le, cut_cut}
use Rattle.lit_base.proofs.TwoOfLevel.{has_two}
use Rattle.lit_base.proofs.HeldClauses.{clauses_of-with_uses, all-with, All-with, finds_more-with, found-with, finds_all-more, fitting-more}
use Rattle.lit_base.proofs.Asserting.{lesson_asserting}
use Rattle.solo_core.proofs.Derived.{derived_by_more, derived_one_more, named_one_more, nonempty_one_more, distinct_one_more, within_one_more, next_is_fresh}
use Rattle.solo_core.proofs.SoundSteps.{jumped_sound, uses_sound}
use Rattle.solo_core.proofs.SoundClauses.{missed_before, carried_with}
use Rattle.solo_core.specs.declared.lemma.Lemma.{Lemma}
use Rattle.solo_core.specs.State.{CoreFrame, CoreState, lemma_name, lemma_clause, lemma_clauses}
use Rattle.solo_core.specs.Turn.{look_of, lemma_of, with_lemma, with_held, jumped, jumped_back}
use Rattle.solo_core.specs.Soundness.{IsDerived, HasLiterals, IsSound, HoldsFormula}

-- the clauses of one lemma more
lemma_clauses-more : (base : List NamedClause) (lemmas : List Lemma) (lemma : Lemma) →
    base ++ lemma_clauses (lemmas ++ lemma ∷ []) ≡ (base ++ lemma_clauses lemmas) ++ lemma_clause lemma ∷ []
lemma_clauses-more base lemmas lemma = ap (λ t. base ++ t) (map_more lemmas) ∙ sym (append_assoc base (lemma_clauses lemmas) (lemma_clause lemma ∷ []))
  where
    map_more : (xs : List Lemma) → lemma_clauses (xs ++ lemma ∷ []) ≡ lemma_clauses xs ++ lemma_clause lemma ∷ []
    map_more [] = refl
    map_more (x ∷ xs) = ap (λ t. lemma_clause x ∷ t) (map_more xs)

-- a lemma under the next name of the period, which follows from what is held and has nothing to do below the current level
pub record IsNext (base : List NamedClause) (frame : CoreFrame) (state : CoreState) (lemma : Lemma) : Type 0 where
  pub name : lemma.name ≡ lemma_name state.period frame.core (length state.lemmas)
  pub derived : IsDerived (look_of state) lemma
  pub literals : HasLiterals lemma
  pub distinct : IsDistinct same lemma.lits
  pub within : All (IsWithin frame.variables) lemma.lits
  pub quiet : (level : ℕ) → level < level_now state.trail → IsQuiet (cut level state.trail) lemma.lits

-- the lemma as a clause that is held, without uses
abbrev pub held_lemma : Lemma → HeldClause
held_lemma lemma = record { name = lemma.name; lits = lemma.lits; uses = 0 }

-- the next name isn't found
next_free : (base : List NamedClause) (frame : CoreFrame) (state : CoreState) (lemma : Lemma) → IsSound base frame state → lemma.name ≡ lemma_name state.period frame.core (length state.lemmas) →
    lits_at (base ++ lemma_clauses state.lemmas) lemma.name ≡ None
next_free base frame state lemma sound is = ap (λ n. lits_at (base ++ lemma_clauses state.lemmas) n) is ∙ next_is_fresh base state.period frame.core state.lemmas sound.derives.fresh sound.derives.named

-- the state with the lemma, before its hints are counted
abbrev with_lemma_held : Lemma → CoreState → CoreState
with_lemma_held lemma state = record (with_lemma lemma state) { clauses = with_clause (held_lemma lemma) state.clauses }

next_held : (base : List NamedClause) (frame : CoreFrame) (state : CoreState) (lemma : Lemma) → IsSound base frame state → IsNext base frame state lemma → IsSound base frame (with_lemma_held lemma state)
next_held base frame state lemma sound next =
    let known = base ++ lemma_clauses state.lemmas in
    let new : lits_at known lemma.name ≡ None = next_free base frame state lemma sound next.name in
    let free : lits_at (clauses_of state.clauses) lemma.name ≡ None = missed_before (look_of state) (lits_at known) lemma.name sound.derives.carried new in
    let h = held_lemma lemma in
    record {
      holds = record {
        found = found-with h state.clauses free sound.holds.found;
        within = All-with (λ c. All (IsWithin frame.variables) c.lits) h state.clauses next.within sound.holds.within;
        fitting = fitting-more (look_of state) (look_of (with_lemma_held lemma state)) state.trail (finds_more-with h state.clauses free) sound.holds.fitting;
        trail_within = sound.holds.trail_within;
        quiet = λ level low. all-with (λ c. IsQuiet (cut level state.trail) c.lits) h state.clauses (next.quiet level low) (sound.holds.quiet level low);
      };
      derives = record {
        carried = subst (λ cs. FindsMore (look_of (with_lemma_held lemma state)) (lits_at cs) (λ name. name)) (sym (lemma_clauses-more base state.lemmas lemma))
            (carried_with h state.clauses known [] (subst (λ cs. FindsMore (look_of state) (lits_at cs) (λ name. name)) (sym (append_nothing known)) sound.derives.carried) free new);
        fresh = sound.derives.fresh;
        named = named_one_more state.period frame.core 0 state.lemmas lemma sound.derives.named (next.name ∙ ap (λ place. lemma_name state.period frame.core place) (let e : length state.lemmas ≡ 0 + length state.lemmas = omega arith in e));
        derived = derived_one_more base state.lemmas lemma sound.derives.derived (derived_by_more (look_of state) (lits_at known) lemma sound.derives.carried next.derived);
        none_empty = nonempty_one_more state.lemmas lemma sound.derives.none_empty next.literals;
        lemmas_distinct = distinct_one_more state.lemmas lemma sound.derives.lemmas_distinct next.distinct;
        lemmas_within = within_one_more frame.variables state.lemmas lemma sound.derives.lemmas_within next.within;
      };
    }
  where
    append_nothing : (cs : List NamedClause) → cs ++ [] ≡ cs
    append_nothing [] = refl
    append_nothing (c ∷ cs) = ap (λ t. c ∷ t) (append_nothing cs)

-- the next lemma is held, and its hints are counted
pub next_sound : (base : List NamedClause) (frame : CoreFrame) (state : CoreState) (lemma : Lemma) → IsSound base frame state → IsNext base frame state lemma → IsSound base frame (with_held lemma (with_lemma lemma state))
next_sound base frame state lemma sound next =
    uses_sound base frame (with_lemma_held lemma state) (with_uses lemma.hints (with_clause (held_lemma lemma) state.clauses)) (next_held base frame state lemma sound next)
    (clauses_of-with_uses lemma.hints (with_clause (held_lemma lemma) state.clauses))

-- the clause of a conflict
conflict_clause : (look : Name → Option (List Literal)) (trail : List Entry) (conflict : Name) → IsConflict look trail conflict → (lits : List Literal) × (look conflict ≡ Some lits)
conflict_clause look trail conflict is = by_look (look conflict) refl is
  where
    by_look : (o : Option (List Literal)) → look conflict ≡ o → IsFalsifiedBy trail o → (lits : List Literal) × (look conflict ≡ Some lits)
    by_look None found falsified = absurd falsified
    by_look (Some lits) found falsified = (lits, found)

-- a lesson's lemma is derived from the clauses that it was taught by
pub lesson_derived : (base : List NamedClause) (frame : CoreFrame) (state : CoreState) (conflict : Name) → IsSound base frame state → IsConflict (look_of state) state.trail conflict →
    IsDerived (look_of state) (lemma_of frame state (lesson_of (look_of state) state.trail conflict))
lesson_derived base frame state conflict sound is = record {
  found = hints_found (look_of state) state.trail conflict sound.holds.fitting.fits is;
  follows = lesson_follows (look_of state) state.trail conflict sound.holds.fitting.distinct sound.holds.fitting.fits is;
}

-- the literals of a lesson are distinct, and within the variables
pub record IsOfFew (frame : CoreFrame) (lesson : Lesson) : Type 0 where
  pub distinct : IsDistinct same lesson.lits
  pub within : All (IsWithin frame.variables) lesson.lits

pub lesson_few : (base : List NamedClause) (frame : CoreFrame) (state : CoreState) (conflict : Name) → IsSound base frame state → IsOfFew frame (lesson_of (look_of state) state.trail conflict)
lesson_few base frame state conflict sound =
    let bounded = lesson_bounded frame.variables (look_of state) state.trail conflict sound.holds.fitting sound.holds.trail_within in
    record { distinct = bounded.distinct; within = bounded.within }

-- after the jump back the lemma is the next
lesson_next : (base : List NamedClause) (frame : CoreFrame) (state : CoreState) (lesson : Lesson) → IsSound base frame state → IsAsserting state.trail lesson → IsOfFew frame lesson →
    IsDerived (look_of state) (lemma_of frame state lesson) →
    IsNext base frame (jumped lesson.back state) (lemma_of frame state lesson)
lesson_next base frame state lesson sound asserting few derived = record {
  name = refl;
  derived = derived;
  literals = subst (λ lits. 1 ≤ length lits) (sym asserting.lits) (omega arith);
  distinct = few.distinct;
  within = few.within;
  quiet = λ level low.
      let below : level < lesson.back = omega (arith, low, level_now-cut-le lesson.back state.trail) in
      subst (λ t. IsQuiet t lesson.lits) (sym (cut_cut level lesson.back state.trail (omega (arith, below)))) (asserting.quiet_before level below);
}

-- the lemma of an asserting lesson is held after the jump back
pub jumped_back_sound : (base : List NamedClause) (frame : CoreFrame) (state : CoreState) (lesson : Lesson) → IsSound base frame state → IsAsserting state.trail lesson → IsOfFew frame lesson →
    IsDerived (look_of state) (lemma_of frame state lesson) →
    IsSound base frame (jumped_back frame lesson state)
jumped_back_sound base frame state lesson sound asserting few derived =
    next_sound base frame (jumped lesson.back state) (lemma_of frame state lesson) (jumped_sound base frame state lesson.back sound) (lesson_next base frame state lesson sound asserting few derived)

pub jumped_back_holds : (cnf : Cnf) (base : List NamedClause) (frame : CoreFrame) (state : CoreState) (lesson : Lesson) → IsSound base frame state → HoldsFormula cnf state → HoldsFormula cnf (jumped_back frame lesson state)
jumped_back_holds cnf base frame state lesson sound holds =
    let lemma = lemma_of frame state lesson in
    let known = base ++ lemma_clauses state.lemmas in
    let free : lits_at (clauses_of state.clauses) lemma.name ≡ None = missed_before (look_of state) (lits_at known) lemma.name sound.derives.carried (next_free base frame state lemma sound refl) in
    subst (λ cs. FindsAll (lits_at cs) (originals cnf)) (sym (clauses_of-with_uses lemma.hints (with_clause (held_lemma lemma) state.clauses)))
    (finds_all-more (look_of state) (lits_at (clauses_of (with_clause (held_lemma lemma) state.clauses))) (originals cnf) (finds_more-with (held_lemma lemma) state.clauses free) holds)

-- what holds of each clause holds of one that is found
pub found_of_all : (P : List Literal → Type 0) (clauses : List NamedClause) (n : Name) (lits : List Literal) → AllByRecursion (λ c. P c.lits) clauses → lits_at clauses n ≡ Some lits → P lits
found_of_all P [] n lits all is = cc
found_of_all P (c ∷ others) n lits all is = by_name (same_name c.name n) is (found_of_all P others n lits all.1)
  where
    by_name : (b : Bool) → option_map (λ d. d.lits) (cond b (Some c) (find (λ d. same_name d.name n) others)) ≡ Some lits → (lits_at others n ≡ Some lits → P lits) → P lits
    by_name true found rest = subst P (same_Some c.lits lits found) all.0
    by_name false found rest = rest found

-- a conflict above level 0 has two literals of the current level
pub conflict_two : (base : List NamedClause) (frame : CoreFrame) (state : CoreState) (conflict : Name) (lits : List Literal) → IsSound base frame state → IsConflict (look_of state) state.trail conflict →
    look_of state conflict ≡ Some lits → 0 < level_now state.trail → HasTwoOfLevel state.trail (level_now state.trail) lits
conflict_two base frame state conflict lits sound is found above = by_level (level_now state.trail) refl above
  where
    falsified : is_falsified state.trail lits ≡ true
    falsified = subst (λ o. IsFalsifiedBy state.trail o) found is

    by_level : (n : ℕ) → level_now state.trail ≡ n → 0 < n → HasTwoOfLevel state.trail n lits
    by_level zero now high = absurd (omega (arith, high))
    by_level (suc n) now high =
        subst (λ m. HasTwoOfLevel state.trail m lits) (let e : n + 1 ≡ suc n = omega arith in e)
        (has_two (look_of state) state.trail n lits sound.holds.fitting (now ∙ (let e : suc n ≡ n + 1 = omega arith in e)) falsified
        (found_of_all (λ ls. IsQuiet (cut n state.trail) ls) (clauses_of state.clauses) conflict lits (sound.holds.quiet n (omega (arith, now))) found))

-- the lesson of a conflict above level 0 is asserting
pub conflict_asserting : (base : List NamedClause) (frame : CoreFrame) (state : CoreState) (conflict : Name) → IsSound base frame state → IsConflict (look_of state) state.trail conflict → 0 < level_now state.trail →
    IsAsserting state.trail (lesson_of (look_of state) state.trail conflict)
conflict_asserting base frame state conflict sound is above =
    let clause = conflict_clause (look_of state) state.trail conflict is in
    let two = conflict_two base frame state conflict clause.0 sound is clause.1 above in
    lesson_asserting (look_of state) state.trail conflict clause.0 two.first sound.holds.fitting clause.1 above two.first_there two.first_level
