-- What the definition's walk marks on the rest of a trail, once no marked entry of the current level is left there.
use Rattle.std.proofs.Common.{◌≡◌, ℕ, ◌==◌, ◌≤◌, ◌<◌, Bool, true, false, cond, ◌&&◌, ◌||◌, List, [], ◌∷◌, ◌++◌, refl, ap, sym, ◌∙◌, subst, arith, inl, inr}
use Rattle.std.specs.Prelude.{Option, Some, None}
use Rattle.std.proofs.lemmas.Bool.{and_right, and_from, or_cases, or_parts, or_left, eqb-true, eqb-false, eq-eqb, cond-true, cond_both, both_ways, false_from_ne_true}
use Rattle.std.proofs.lemmas.List.Folds.{list_any-append}
use Rattle.lit_base.specs.Literal.{Literal}
use Rattle.lit_base.specs.declared.trail.Entry.{Entry}
use Rattle.lit_base.specs.declared.name.Name.{Name}
use Rattle.lit_base.specs.Trail.{level_now, is_free}
use Rattle.lit_base.specs.Fits.{HasReason, FitsClauses, IsLeveled, IsFitting}
use Rattle.lit_base.specs.Analysis.{Trace, variables_of, is_marked, is_other_left, is_resolved, stay, resolve, touch, settle, trace_step, trace}
use Rattle.lit_base.proofs.LessonSound.{still_marked}
use Rattle.lit_base.proofs.OneOfLevel.{older_level, none_left_below}
use Rattle.lit_base.proofs.Touched.{reason_stands, or_nothing}
use Rattle.first_uip.specs.Places.{entry_of}
use Rattle.first_uip.specs.Reasons.{reason_variables, root_variables}
use Rattle.first_uip.proofs.Placed.{no_sign, entry_of-free}

-- the older entries fit too
pub fits_older : (look : Name → Option (List Literal)) (e : Entry) (older : List Entry) → IsFitting look (e ∷ older) → IsFitting look older
fits_older look e older fitting = record { distinct = fitting.distinct.1; fits = fitting.fits.1; leveled = fitting.leveled.1 }

-- a marked entry is resolved exactly at level 0
pub resolved_at_root : (look : Name → Option (List Literal)) (level : ℕ) (marked : List ℕ) (e : Entry) (older : List Entry) → is_other_left level marked (e ∷ older) ≡ false →
    is_resolved look level marked e older ≡ (e.level == 0)
resolved_at_root look level marked e older none =
    ap (λ b. (e.level == 0) || b)
    (and_right (e.level == level) (is_other_left level marked older) (or_parts ((e.level == level) && is_marked marked e.lit.variable) (is_other_left level marked older) none).1)
    ∙ sym (or_nothing (e.level == 0))

-- a step marks the variables of the reason of a resolved entry, or no more
step_marks : (look : Name → Option (List Literal)) (level : ℕ) (e : Entry) (older : List Entry) (t : Trace) (P : List ℕ → Type 0) → P t.marked →
    ((name : Name) → e.reason ≡ Some name → is_marked t.marked e.lit.variable ≡ true → is_resolved look level t.marked e older ≡ true → P (variables_of (look name) ++ t.marked)) →
    P (trace_step look level e older t).marked
step_marks look level e older t P same more =
    cond_both (is_marked t.marked e.lit.variable) (settle look (is_resolved look level t.marked e older) e (touch e t)) t (λ after. P after.marked)
    (λ marked. cond_both (is_resolved look level t.marked e older) (resolve look e e.reason (touch e t)) (stay e (touch e t)) (λ after. P after.marked)
    (λ resolved. by_reason e.reason (λ name is. more name is marked resolved))
    (λ stays. same))
    (λ unmarked. same)
  where
    by_reason : (reason : Option Name) → ((name : Name) → reason ≡ Some name → P (variables_of (look name) ++ t.marked)) → P (resolve look e reason (touch e t)).marked
    by_reason None more = same
    by_reason (Some name) more = more name refl

-- what is marked stays marked
pub trace_keeps : (look : Name → Option (List Literal)) (level : ℕ) (rest : List Entry) (t : Trace) (v : ℕ) → is_marked t.marked v ≡ true → is_marked (trace look level rest t).marked v ≡ true
trace_keeps look level [] t v is = is
trace_keeps look level (e ∷ older) t v is =
    trace_keeps look level older (trace_step look level e older t) v
    (step_marks look level e older t (λ marked. is_marked marked v ≡ true) is (λ name reason marked resolved. still_marked (variables_of (look name)) t.marked v is))

-- the reason of an entry
reason_of : (look : Name → Option (List Literal)) (older : List Entry) (e : Entry) (name : Name) → HasReason look older e.lit e.reason → e.reason ≡ Some name → HasReason look older e.lit (Some name)
reason_of look older e name has is = subst (λ reason. HasReason look older e.lit reason) is has

-- of a variable that doesn't stand on the rest, no mark comes or goes
trace_leaves : (look : Name → Option (List Literal)) (level : ℕ) (rest : List Entry) (t : Trace) (v : ℕ) → FitsClauses look rest → is_free rest v ≡ true →
    is_marked (trace look level rest t).marked v ≡ is_marked t.marked v
trace_leaves look level [] t v fits free = refl
trace_leaves look level (e ∷ older) t v fits free =
    trace_leaves look level older (trace_step look level e older t) v fits.1 apart.1
    ∙ step_marks look level e older t (λ marked. is_marked marked v ≡ is_marked t.marked v) refl
    (λ name reason marked resolved. list_any-append (λ m. m == v) (variables_of (look name)) t.marked ∙ ap (λ b. b || is_marked t.marked v) (not_there name reason))
  where
    apart : ((e.lit.variable == v) ≡ false) × (is_free older v ≡ true)
    apart = no_sign e older v free

    not_there : (name : Name) → e.reason ≡ Some name → is_marked (variables_of (look name)) v ≡ false
    not_there name reason =
        false_from_ne_true (is_marked (variables_of (look name)) v)
        (λ there. elim (reason_stands older e.lit (look name) (reason_of look older e name fits.0 reason) v there) [
          | inl own ↦ eqb-false e.lit.variable v apart.0 own
          | inr stands ↦ both_ways (is_free older v) stands apart.1
        ])

-- so whether an entry is marked is settled when it is met
pub marked_when_met : (look : Name → Option (List Literal)) (level : ℕ) (e : Entry) (older : List Entry) (t : Trace) → IsFitting look (e ∷ older) →
    is_marked (trace look level (e ∷ older) t).marked e.lit.variable ≡ is_marked t.marked e.lit.variable
marked_when_met look level e older t fitting =
    trace_leaves look level older (trace_step look level e older t) e.lit.variable fitting.fits.1 fitting.distinct.0
    ∙ step_marks look level e older t (λ marked. is_marked marked e.lit.variable ≡ is_marked t.marked e.lit.variable) refl
    (λ name reason marked resolved. still_marked (variables_of (look name)) t.marked e.lit.variable marked ∙ sym marked)

-- after a step none of the level is left still
pub none_left_after : (look : Name → Option (List Literal)) (level : ℕ) (e : Entry) (older : List Entry) (t : Trace) → IsLeveled (e ∷ older) → is_other_left level t.marked (e ∷ older) ≡ false →
    is_other_left level (trace_step look level e older t).marked older ≡ false
none_left_after look level e older t leveled none =
    step_marks look level e older t (λ marked. is_other_left level marked older ≡ false) parts.1
    (λ name reason marked resolved.
    let root : e.level ≡ 0 = eqb-true e.level 0 (sym (resolved_at_root look level t.marked e older none) ∙ resolved) in
    let low : level_now older ≤ e.level = older_level (level_now older) e.level e.reason leveled.0 in
    let other : e.level ≡ level → ⊥ = λ is. both_ways ((e.level == level) && is_marked t.marked e.lit.variable) parts.0 (and_from (e.level == level) (is_marked t.marked e.lit.variable) (eq-eqb e.level level is) marked) in
    none_left_below level (variables_of (look name) ++ t.marked) older leveled.1 (let below : level_now older < level = grind arith in below))
  where
    parts : (((e.level == level) && is_marked t.marked e.lit.variable) ≡ false) × (is_other_left level t.marked older ≡ false)
    parts = or_parts ((e.level == level) && is_marked t.marked e.lit.variable) (is_other_left level t.marked older) none

-- the variables of the reason of a marked entry of level 0 are marked by its step
root_step : (look : Name → Option (List Literal)) (level : ℕ) (e : Entry) (older : List Entry) (t : Trace) (w : ℕ) → is_marked t.marked e.lit.variable ≡ true →
    is_marked (root_variables look (Some e)) w ≡ true → is_marked (trace_step look level e older t).marked w ≡ true
root_step look level e older t w marked there =
    by_level (e.level == 0) refl there
  where
    by_reason : (reason : Option Name) → is_marked (reason_variables look reason) w ≡ true → is_marked (resolve look e reason (touch e t)).marked w ≡ true
    by_reason None there = cc
    by_reason (Some name) there = list_any-append (λ m. m == w) (variables_of (look name)) t.marked ∙ or_left (is_marked (variables_of (look name)) w) (is_marked t.marked w) there

    by_level : (b : Bool) → (e.level == 0) ≡ b → is_marked (cond b (reason_variables look e.reason) []) w ≡ true → is_marked (trace_step look level e older t).marked w ≡ true
    by_level true root there =
        let resolved : is_resolved look level t.marked e older ≡ true = or_left (e.level == 0) ((e.level == level) && is_other_left level t.marked older) root in
        let step : trace_step look level e older t ≡ resolve look e e.reason (touch e t) =
        cond-true (is_marked t.marked e.lit.variable) (settle look (is_resolved look level t.marked e older) e (touch e t)) t marked
        ∙ ap (λ b. settle look b e (touch e t)) resolved in
        subst (λ after. is_marked after.marked w ≡ true) (sym step) (by_reason e.reason there)
    by_level false above there = cc

-- what is marked in the end is closed: it has the variables of the reasons of its entries of level 0
pub trace_closed : (look : Name → Option (List Literal)) (level : ℕ) (rest : List Entry) (t : Trace) → IsFitting look rest → (v w : ℕ) → is_marked (trace look level rest t).marked v ≡ true →
    is_marked (root_variables look (entry_of rest v)) w ≡ true → is_marked (trace look level rest t).marked w ≡ true
trace_closed look level [] t fitting v w marked there = cc
trace_closed look level (e ∷ older) t fitting v w marked there =
    by_entry (e.lit.variable == v) refl there (trace_closed look level older (trace_step look level e older t) (fits_older look e older fitting) v w marked)
  where
    by_entry : (b : Bool) → (e.lit.variable == v) ≡ b → is_marked (root_variables look (cond b (Some e) (entry_of older v))) w ≡ true →
        (is_marked (root_variables look (entry_of older v)) w ≡ true → is_marked (trace look level (e ∷ older) t).marked w ≡ true) → is_marked (trace look level (e ∷ older) t).marked w ≡ true
    by_entry true here there later =
        let met : is_marked t.marked e.lit.variable ≡ true =
        sym (marked_when_met look level e older t fitting) ∙ (ap (is_marked (trace look level (e ∷ older) t).marked) (eqb-true e.lit.variable v here) ∙ marked) in
        trace_keeps look level older (trace_step look level e older t) w (root_step look level e older t w met there)
    by_entry false other there later = later there

-- and it is the least that is: whatever is closed, and has what was marked before, has it
pub trace_least : (look : Name → Option (List Literal)) (level : ℕ) (rest : List Entry) (t : Trace) (has : ℕ → Bool) → IsFitting look rest → is_other_left level t.marked rest ≡ false →
    ((v : ℕ) → is_marked t.marked v ≡ true → has v ≡ true) →
    ((v w : ℕ) → has v ≡ true → is_marked (root_variables look (entry_of rest v)) w ≡ true → has w ≡ true) →
    (v : ℕ) → is_marked (trace look level rest t).marked v ≡ true → has v ≡ true
trace_least look level [] t has fitting none before closed v marked = before v marked
trace_least look level (e ∷ older) t has fitting none before closed v marked =
    trace_least look level older (trace_step look level e older t) has (fits_older look e older fitting) (none_left_after look level e older t fitting.leveled none)
    (step_marks look level e older t (λ marks. (u : ℕ) → is_marked marks u ≡ true → has u ≡ true) before (λ name reason met resolved u there.
    elim (or_cases (is_marked (variables_of (look name)) u) (is_marked t.marked u) (sym (list_any-append (λ m. m == u) (variables_of (look name)) t.marked) ∙ there)) [
      | inl fresh ↦ closed e.lit.variable u (before e.lit.variable met) (subst (λ vs. is_marked vs u ≡ true) (sym (own_root name reason resolved)) fresh)
      | inr was ↦ before u was
    ]))
    (λ u w is there. closed u w is (subst (λ o. is_marked (root_variables look o) w ≡ true) (sym (same_entry u w there)) there)) v marked
  where
    own_root : (name : Name) → e.reason ≡ Some name → is_resolved look level t.marked e older ≡ true → root_variables look (entry_of (e ∷ older) e.lit.variable) ≡ variables_of (look name)
    own_root name reason resolved =
        ap (root_variables look) (cond-true (e.lit.variable == e.lit.variable) (Some e) (entry_of older e.lit.variable) (eq-eqb e.lit.variable e.lit.variable refl))
        ∙ (cond-true (e.level == 0) (reason_variables look e.reason) [] (sym (resolved_at_root look level t.marked e older none) ∙ resolved)
        ∙ ap (reason_variables look) reason)

    same_entry : (u w : ℕ) → is_marked (root_variables look (entry_of older u)) w ≡ true → entry_of (e ∷ older) u ≡ entry_of older u
    same_entry u w there =
        cond_both (e.lit.variable == u) (Some e) (entry_of older u) (λ o. o ≡ entry_of older u)
        (λ here. absurd (both_ways (is_marked (root_variables look (entry_of older u)) w)
        (ap (λ o. is_marked (root_variables look o) w) (entry_of-free u older (subst (λ x. is_free older x ≡ true) (eqb-true e.lit.variable u here) fitting.distinct.0))) there))
        (λ other. refl)
