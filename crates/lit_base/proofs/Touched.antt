-- The touched variables of a lesson are those above level 0 of the clauses that its hints name.
use Rattle.std.proofs.Common.{◌≡◌, ℕ, ◌==◌, ◌≤◌, Bool, true, false, cond, ◌||◌, List, [], ◌∷◌, ◌++◌, map, refl, ap, sym, ◌∙◌, subst, arith, ◌⊎◌, inl, inr, ◌↔◌, Contains}
use Rattle.std.specs.Prelude.{Option, Some, None, is_none, IsTrue}
use Rattle.std.specs.List.{list_all, AllByRecursion}
use Rattle.std.proofs.lemmas.Bool.{or_cases, and_parts, eqb-true, eqb-false, cond_both, both_ways}
use Rattle.std.proofs.lemmas.Option.{same_Some}
use Rattle.std.proofs.lemmas.List.Folds.{list_any-append}
use Rattle.std.proofs.lemmas.List.Elements.{Contains-push, Contains-push_cases, Contains-append_left}
use Rattle.lit_base.specs.Literal.{Literal, same}
use Rattle.lit_base.specs.Trail.{sign_of, is_false, is_free, level_of, level_now}
use Rattle.lit_base.specs.Fits.{IsImpliedBy, HasReason, FitsClauses, IsFalsifiedBy, IsConflict, IsFitting}
use Rattle.lit_base.specs.Analysis.{Trace, variables_of, is_marked, is_resolved, stay, resolve, touch, settle, trace_step, trace, first_trace, lesson_of, is_met, IsAboveRoot}
use Rattle.lit_base.specs.declared.trail.Entry.{Entry}
use Rattle.lit_base.specs.declared.name.Name.{Name}
use Rattle.lit_base.proofs.DistinctLits.{same-true}
use Rattle.lit_base.proofs.Standing.{negation_stands}
use Rattle.lit_base.proofs.LessonSound.{still_marked}
use Rattle.lit_base.proofs.OneOfLevel.{IsOn, each_on}

-- a literal of the clause with this variable, which passes the test that all its literals pass
marked_literal : (p : Literal → Bool) (lits : List Literal) (v : ℕ) → is_marked (map (λ l. l.variable) lits) v ≡ true → list_all p lits ≡ true → (m : Literal) × (m.variable ≡ v) × (p m ≡ true)
marked_literal p [] v there all = cc
marked_literal p (l ∷ ls) v there all =
    let parts = and_parts (p l) (list_all p ls) all in
    elim (or_cases (l.variable == v) (is_marked (map (λ k. k.variable) ls) v) there) [
      | inl here ↦ (l, eqb-true l.variable v here, parts.0)
      | inr later ↦ marked_literal p ls v later parts.1
    ]

-- the variable of a false literal stands
not_free_from_false : (trail : List Entry) (m : Literal) (v : ℕ) → m.variable ≡ v → is_false trail m ≡ true → is_free trail v ≡ false
not_free_from_false trail m v is untrue = subst (λ w. is_free trail w ≡ false) is (ap is_none (negation_stands trail m untrue))

-- the variables of a falsified clause stand
conflict_stands : (trail : List Entry) (o : Option (List Literal)) → IsFalsifiedBy trail o → (v : ℕ) → is_marked (variables_of o) v ≡ true → is_free trail v ≡ false
conflict_stands trail None falsified v there = absurd falsified
conflict_stands trail (Some lits) falsified v there =
    let found = marked_literal (is_false trail) lits v there falsified in not_free_from_false trail found.0 v found.1 found.2

-- those of a reason are the entry's own, or stand on the older entries
pub reason_stands : (older : List Entry) (l : Literal) (o : Option (List Literal)) → IsImpliedBy older l o → (v : ℕ) → is_marked (variables_of o) v ≡ true → (l.variable ≡ v) ⊎ (is_free older v ≡ false)
reason_stands older l None implied v there = absurd implied
reason_stands older l (Some lits) implied v there =
    let found = marked_literal (λ m. is_false older m || same m l) lits v there implied.others in
    elim (or_cases (is_false older found.0) (same found.0 l) found.2) [
      | inl untrue ↦ inr (not_free_from_false older found.0 v found.1 untrue)
      | inr own ↦ inl (sym (ap (λ (m : Literal). m.variable) (same-true found.0 l own)) ∙ found.1)
    ]

-- a variable that stands is that of the newest entry or stands on the older ones
newest_or_older : (e : Entry) (older : List Entry) (v : ℕ) → is_free (e ∷ older) v ≡ false → (e.lit.variable ≡ v) ⊎ (is_free older v ≡ false)
newest_or_older e older v = by_test (e.lit.variable == v) refl
  where
    by_test : (b : Bool) → (e.lit.variable == v) ≡ b → is_none (cond b (Some e.lit.positive) (sign_of older v)) ≡ false → (e.lit.variable ≡ v) ⊎ (is_free older v ≡ false)
    by_test true here stands = inl (eqb-true e.lit.variable v here)
    by_test false other stands = inr stands

-- what each step of the trace keeps
record IsMarking (look : Name → Option (List Literal)) (trail rest : List Entry) (t : Trace) : Type 0 where
  met : (v : ℕ) → is_marked t.marked v ≡ is_met look t.hints v
  sound : (v : ℕ) → Contains t.touched v → (is_marked t.marked v ≡ true) × IsAboveRoot trail v
  reached : (v : ℕ) → is_marked t.marked v ≡ true → IsAboveRoot trail v → Contains t.touched v ⊎ (is_free rest v ≡ false)

-- what was touched stays touched
touch_keeps : (e : Entry) (t : Trace) (v : ℕ) → Contains t.touched v → Contains (touch e t).touched v
touch_keeps e t v there =
    cond_both (e.level == 0) t.touched (t.touched ++ e.lit.variable ∷ []) (λ touched. Contains touched v) (λ root. there)
    (λ above. Contains-append_left t.touched (e.lit.variable ∷ []) v there)

-- an entry above level 0 is touched
touch_newest : (trail : List Entry) (e : Entry) (t : Trace) (v : ℕ) → IsOn trail e → e.lit.variable ≡ v → IsAboveRoot trail v → Contains (touch e t).touched v
touch_newest trail e t v on is above =
    cond_both (e.level == 0) t.touched (t.touched ++ e.lit.variable ∷ []) (λ touched. Contains touched v)
    (λ root.
    let at_root : e.level ≡ 0 = eqb-true e.level 0 root in
    let same : e.level ≡ above.level = same_Some e.level above.level (sym on.level ∙ (ap (λ w. level_of trail w) is ∙ above.stands)) in
    let high : 1 ≤ above.level = above.above_root in
    absurd (omega arith))
    (λ higher. subst (λ w. Contains (t.touched ++ e.lit.variable ∷ []) w) is (Contains-push t.touched e.lit.variable))

-- no other variable than that of a marked entry above level 0 is
touch_sound : (trail : List Entry) (e : Entry) (t : Trace) (v : ℕ) → IsOn trail e → is_marked t.marked e.lit.variable ≡ true →
    (Contains t.touched v → (is_marked t.marked v ≡ true) × IsAboveRoot trail v) → Contains (touch e t).touched v → (is_marked t.marked v ≡ true) × IsAboveRoot trail v
touch_sound trail e t v on marked before =
    cond_both (e.level == 0) t.touched (t.touched ++ e.lit.variable ∷ []) (λ touched. Contains touched v → (is_marked t.marked v ≡ true) × IsAboveRoot trail v)
    (λ root. before)
    (λ higher there. elim (Contains-push_cases t.touched e.lit.variable v there) [
      | inl earlier ↦ before earlier
      | inr is ↦ subst (λ w. (is_marked t.marked w ≡ true) × IsAboveRoot trail w) is (marked, above (eqb-false e.level 0 higher))
    ])
  where
    above : (e.level ≡ 0 → ⊥) → IsAboveRoot trail e.lit.variable
    above differs = record { level = e.level; stands = on.level; above_root = let up : 1 ≤ e.level = grind arith in up }

touch_marking : (look : Name → Option (List Literal)) (trail : List Entry) (e : Entry) (older : List Entry) (t : Trace) → IsOn trail e → is_marked t.marked e.lit.variable ≡ true →
    IsMarking look trail (e ∷ older) t → IsMarking look trail older (touch e t)
touch_marking look trail e older t on marked before = record {
  met = before.met;
  sound = λ v. touch_sound trail e t v on marked (before.sound v);
  reached = λ v is_in above. elim (before.reached v is_in above) [
    | inl there ↦ inl (touch_keeps e t v there)
    | inr stands ↦ elim (newest_or_older e older v stands) [
      | inl is ↦ inl (touch_newest trail e t v on is above)
      | inr earlier ↦ inr earlier
    ]
  ];
}

stay_marking : (look : Name → Option (List Literal)) (trail rest : List Entry) (e : Entry) (t : Trace) → IsMarking look trail rest t → IsMarking look trail rest (stay e t)
stay_marking look trail rest e t before = record { met = before.met; sound = before.sound; reached = before.reached }

-- a reason that becomes a hint meets the variables that its marks add
pub met_more : (look : Name → Option (List Literal)) (name : Name) (marked : List ℕ) (hints : List Name) (v : ℕ) → is_marked marked v ≡ is_met look hints v →
    is_marked (variables_of (look name) ++ marked) v ≡ is_met look (name ∷ hints) v
met_more look name marked hints v were = list_any-append (λ m. m == v) (variables_of (look name)) marked ∙ ap (λ b. is_marked (variables_of (look name)) v || b) were

resolve_marking : (look : Name → Option (List Literal)) (trail : List Entry) (e : Entry) (older : List Entry) (reason : Option Name) (t : Trace) → IsOn trail e → HasReason look older e.lit reason →
    IsMarking look trail older (touch e t) → IsMarking look trail older (resolve look e reason (touch e t))
resolve_marking look trail e older None t on has before = stay_marking look trail older e (touch e t) before
resolve_marking look trail e older (Some name) t on has before = record {
  met = λ v. met_more look name t.marked t.hints v (before.met v);
  sound = λ v there. let was = before.sound v there in (still_marked (variables_of (look name)) t.marked v was.0, was.1);
  reached = λ v is_in above. elim (or_cases (is_marked (variables_of (look name)) v) (is_marked t.marked v) (sym (list_any-append (λ m. m == v) (variables_of (look name)) t.marked) ∙ is_in)) [
    | inl fresh ↦ elim (reason_stands older e.lit (look name) has v fresh) [
      | inl own ↦ inl (touch_newest trail e t v on own above)
      | inr earlier ↦ inr earlier
    ]
    | inr was ↦ before.reached v was above
  ];
}

unmarked_marking : (look : Name → Option (List Literal)) (trail : List Entry) (e : Entry) (older : List Entry) (t : Trace) → is_marked t.marked e.lit.variable ≡ false →
    IsMarking look trail (e ∷ older) t → IsMarking look trail older t
unmarked_marking look trail e older t unmarked before = record {
  met = before.met;
  sound = before.sound;
  reached = λ v is_in above. elim (before.reached v is_in above) [
    | inl there ↦ inl there
    | inr stands ↦ elim (newest_or_older e older v stands) [
      | inl is ↦ absurd (both_ways (is_marked t.marked v) (subst (λ w. is_marked t.marked w ≡ false) is unmarked) is_in)
      | inr earlier ↦ inr earlier
    ]
  ];
}

step_marking : (look : Name → Option (List Literal)) (level : ℕ) (trail : List Entry) (e : Entry) (older : List Entry) (t : Trace) → IsOn trail e → HasReason look older e.lit e.reason →
    IsMarking look trail (e ∷ older) t → IsMarking look trail older (trace_step look level e older t)
step_marking look level trail e older t on has before =
    cond_both (is_marked t.marked e.lit.variable) (settle look (is_resolved look level t.marked e older) e (touch e t)) t (IsMarking look trail older)
    (λ marked. let touched = touch_marking look trail e older t on marked before in
    cond_both (is_resolved look level t.marked e older) (resolve look e e.reason (touch e t)) (stay e (touch e t)) (IsMarking look trail older)
    (λ resolved. resolve_marking look trail e older e.reason t on has touched)
    (λ stays. stay_marking look trail older e (touch e t) touched))
    (λ unmarked. unmarked_marking look trail e older t unmarked before)

trace_marking : (look : Name → Option (List Literal)) (level : ℕ) (trail rest : List Entry) (t : Trace) → AllByRecursion (IsOn trail) rest → FitsClauses look rest → IsMarking look trail rest t →
    IsMarking look trail [] (trace look level rest t)
trace_marking look level trail [] t on fits before = before
trace_marking look level trail (e ∷ older) t on fits before =
    trace_marking look level trail older (trace_step look level e older t) on.1 fits.1 (step_marking look level trail e older t on.0 fits.0 before)

pub or_nothing : (b : Bool) → b ≡ (b || false)
or_nothing true = refl
or_nothing false = refl

nothing_touched : (v : ℕ) → Contains [] v → ⊥
nothing_touched v there = omega arith

first_marking : (look : Name → Option (List Literal)) (trail : List Entry) (conflict : Name) → IsConflict look trail conflict → IsMarking look trail trail (first_trace look conflict)
first_marking look trail conflict falsified = record {
  met = λ v. or_nothing (is_marked (variables_of (look conflict)) v);
  sound = λ v there. absurd (nothing_touched v there);
  reached = λ v is_in above. inr (conflict_stands trail (look conflict) falsified v is_in);
}

-- touched are exactly the variables above level 0 of the clauses that the hints name
pub touched_exactly : (look : Name → Option (List Literal)) (trail : List Entry) (conflict : Name) → IsFitting look trail → IsConflict look trail conflict → (v : ℕ) →
    Contains (lesson_of look trail conflict).touched v ↔ (IsTrue (is_met look (lesson_of look trail conflict).hints v) × IsAboveRoot trail v)
touched_exactly look trail conflict fitting falsified v = (
  (λ there. let was = ended.sound v there in (sym (ended.met v) ∙ was.0, was.1)),
  (λ both. elim (ended.reached v (ended.met v ∙ both.0) both.1) [
    | inl there ↦ there
    | inr stands ↦ let clash : true ≡ false = stands in cc
  ]),
)
  where
    ended : IsMarking look trail [] (trace look (level_now trail) trail (first_trace look conflict))
    ended =
        trace_marking look (level_now trail) trail trail (first_trace look conflict) (each_on trail fitting.distinct) fitting.fits (first_marking look trail conflict falsified)
