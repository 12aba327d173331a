-- Of the entries that stay after the analysis of a conflict one is of the current level: the first that stays.
use Rattle.std.proofs.Common.{◌≡◌, ℕ, ◌==◌, ◌+◌, ◌≤◌, ◌<◌, Bool, true, false, cond, ◌&&◌, List, [], ◌∷◌, ◌++◌, append-nil, refl, ap, sym, ◌∙◌, subst, arith, ◌⊎◌, inl, inr}
use Rattle.std.specs.Prelude.{Option, Some, None}
use Rattle.std.specs.List.{list_any, AllByRecursion}
use Rattle.std.proofs.lemmas.Bool.{and_from, and_left, or_cases, or_parts, or_from, or_left, or_right, and_parts, and_cases, eqb-true, eqb-false, eq-eqb, ne_eqb, cond_both, both_ways, cases_lt}
use Rattle.std.proofs.lemmas.Option.{same_Some}
use Rattle.lit_base.specs.Literal.{Literal, same}
use Rattle.lit_base.specs.declared.trail.Entry.{Entry}
use Rattle.lit_base.specs.declared.name.Name.{Name}
use Rattle.lit_base.specs.Trail.{sign_of, level_of, is_free, level_now}
use Rattle.lit_base.specs.Fits.{HasDistinctVariables, IsNextLevel, IsLeveled}
use Rattle.lit_base.specs.Analysis.{Trace, variables_of, is_marked, is_other_left, is_resolved, stay, resolve, touch, settle, trace_step, trace, first_trace}
use Rattle.lit_base.proofs.Lists.{each_when, one_more}
use Rattle.lit_base.proofs.Known.{all_at, any_when}
use Rattle.lit_base.proofs.Standing.{Stands, free_and_found, newest_stands, newest_extends}
use Rattle.lit_base.proofs.LessonSound.{marked_with, still_marked}

-- the entry's sign and its level are those of its variable on the trail
pub record IsOn (trail : List Entry) (e : Entry) : Type 0 where
  pub stands : Stands trail e.lit
  pub level : level_of trail e.lit.variable ≡ Some e.level

newest_level_by : (b : Bool) (level : ℕ) (o : Option ℕ) → b ≡ true → cond b (Some level) o ≡ Some level
newest_level_by true level o is = refl
newest_level_by false level o is = cc

newest_on : (e : Entry) (older : List Entry) → IsOn (e ∷ older) e
newest_on e older = record {
  stands = newest_stands e older;
  level = newest_level_by (e.lit.variable == e.lit.variable) e.level (level_of older e.lit.variable) (eq-eqb e.lit.variable e.lit.variable refl);
}

older_level_by : (b : Bool) (level : ℕ) (o : Option ℕ) (m : ℕ) → b ≡ false → o ≡ Some m → cond b (Some level) o ≡ Some m
older_level_by true level o m is found = cc
older_level_by false level o m is found = found

older_on : (e : Entry) (older : List Entry) (s : Entry) → is_free older e.lit.variable ≡ true → IsOn older s → IsOn (e ∷ older) s
older_on e older s free on = record {
  stands = newest_extends e older free s.lit.variable s.lit.positive on.stands;
  level = older_level_by (e.lit.variable == s.lit.variable) e.level (level_of older s.lit.variable) s.level (ne_eqb e.lit.variable s.lit.variable differ) on.level;
}
  where
    differ : e.lit.variable ≡ s.lit.variable → ⊥
    differ is = free_and_found (sign_of older s.lit.variable) s.lit.positive (ap (λ v. is_free older v) (sym is) ∙ free) on.stands

-- each entry of a trail is on it
pub each_on : (trail : List Entry) → HasDistinctVariables trail → AllByRecursion (IsOn trail) trail
each_on [] distinct = tt
each_on (e ∷ older) distinct = (newest_on e older, each_when (IsOn older) (IsOn (e ∷ older)) (λ s on. older_on e older s distinct.0 on) older (each_on older distinct.1))

-- an older entry's level is no higher
pub older_level : (now level : ℕ) (reason : Option Name) → IsNextLevel now level reason → now ≤ level
older_level now level None next = let e : level ≡ now + 1 = next in omega arith
older_level now level (Some name) next = let e : level ≡ now = next in omega arith

-- no marked entry of a level is left above a trail of lower levels
pub none_left_below : (level : ℕ) (marked : List ℕ) (rest : List Entry) → IsLeveled rest → level_now rest < level → is_other_left level marked rest ≡ false
none_left_below level marked [] leveled low = refl
none_left_below level marked (e ∷ older) leveled low =
    or_from ((e.level == level) && is_marked marked e.lit.variable) (is_other_left level marked older)
    (and_left (e.level == level) (is_marked marked e.lit.variable) (ne_eqb e.level level (λ is. omega arith)))
    (none_left_below level marked older leveled.1 (let down : level_now older ≤ e.level = older_level (level_now older) e.level e.reason leveled.0 in omega arith))

-- more marks leave what was left
still_left : (level : ℕ) (more marked : List ℕ) (rest : List Entry) → is_other_left level marked rest ≡ true → is_other_left level (more ++ marked) rest ≡ true
still_left level more marked rest left =
    any_when (λ e. (e.level == level) && is_marked marked e.lit.variable) (λ e. (e.level == level) && is_marked (more ++ marked) e.lit.variable)
    (λ e is. let parts = and_parts (e.level == level) (is_marked marked e.lit.variable) is in
    and_from (e.level == level) (is_marked (more ++ marked) e.lit.variable) parts.0 (still_marked more marked e.lit.variable parts.1))
    rest left

-- before the first entry stays, a marked entry of the level is left
record IsBefore (level : ℕ) (t : Trace) (rest : List Entry) : Type 0 where
  none : t.stays ≡ []
  left : is_other_left level t.marked rest ≡ true

-- the entry is on the trail, of a level from 1 to below this one
pub record IsOther (trail : List Entry) (level : ℕ) (e : Entry) : Type 0 where
  pub on : IsOn trail e
  pub above_root : 1 ≤ e.level
  pub lower : e.level < level

-- entries that are on the trail, the first of this level and the others of lower ones, above 0
pub record HasOneOfLevel (trail : List Entry) (level : ℕ) (stays : List Entry) : Type 0 where
  pub one : Entry
  pub others : List Entry
  pub entries : stays ≡ one ∷ others
  pub on : IsOn trail one
  pub one_level : one.level ≡ level
  pub each : AllByRecursion (IsOther trail level) others

-- once an entry of the level stays, no marked one of it is left
record IsAfter (trail : List Entry) (level : ℕ) (t : Trace) (rest : List Entry) : Type 0 where
  one : HasOneOfLevel trail level t.stays
  none_left : is_other_left level t.marked rest ≡ false

-- what each step of the trace keeps
abbrev IsOnTheWay : List Entry → ℕ → Trace → List Entry → Type 0
IsOnTheWay trail level t rest = IsBefore level t rest ⊎ IsAfter trail level t rest

-- an entry that isn't marked changes nothing
unmarked_step : (trail : List Entry) (level : ℕ) (e : Entry) (older : List Entry) (t : Trace) → is_marked t.marked e.lit.variable ≡ false →
    IsOnTheWay trail level t (e ∷ older) → IsOnTheWay trail level t older
unmarked_step trail level e older t unmarked (inl before) = elim (or_cases ((e.level == level) && is_marked t.marked e.lit.variable) (is_other_left level t.marked older) before.left) [
  | inl this ↦ absurd (both_ways (is_marked t.marked e.lit.variable) unmarked (and_parts (e.level == level) (is_marked t.marked e.lit.variable) this).1)
  | inr later ↦ inl (record { none = before.none; left = later })
]
unmarked_step trail level e older t unmarked (inr after) =
    inr (record { one = after.one; none_left = (or_parts ((e.level == level) && is_marked t.marked e.lit.variable) (is_other_left level t.marked older) after.none_left).1 })

-- where a marked entry of the level is left, an entry of the level has a reason
resolved_before : (look : Name → Option (List Literal)) (trail : List Entry) (level : ℕ) (e : Entry) (older : List Entry) (reason : Option Name) (t : Trace) → IsNextLevel (level_now older) e.level reason →
    IsLeveled older → e.level ≤ level → is_other_left level t.marked older ≡ true → t.stays ≡ [] → IsOnTheWay trail level (resolve look e reason t) older
resolved_before look trail level e older None t next leveled low left none =
    absurd (both_ways (is_other_left level t.marked older) (none_left_below level t.marked older leveled (let up : e.level ≡ level_now older + 1 = next in omega arith)) left)
resolved_before look trail level e older (Some name) t next leveled low left none =
    inl (record { none = none; left = still_left level (variables_of (look name)) t.marked older left })

-- the first entry that stays
first_stays : (trail : List Entry) (level : ℕ) (e : Entry) (older : List Entry) (t : Trace) → IsOn trail e → e.level ≡ level → is_other_left level t.marked older ≡ false → t.stays ≡ [] →
    IsOnTheWay trail level (stay e t) older
first_stays trail level e older t on is none_left none =
    inr (record {
      one = record { one = e; others = []; entries = ap (λ stays. stays ++ e ∷ []) none; on = on; one_level = is; each = tt };
      none_left = none_left;
    })

-- a marked entry, before any entry stays
marked_before : (look : Name → Option (List Literal)) (trail : List Entry) (level : ℕ) (e : Entry) (older : List Entry) (t : Trace) → IsOn trail e → IsLeveled (e ∷ older) → e.level ≤ level →
    0 < level → IsBefore level t (e ∷ older) → IsOnTheWay trail level (settle look (is_resolved look level t.marked e older) e (touch e t)) older
marked_before look trail level e older t on leveled low above before =
    cond_both (is_resolved look level t.marked e older) (resolve look e e.reason (touch e t)) (stay e (touch e t)) (λ after. IsOnTheWay trail level after older)
    (λ resolved. elim (or_cases (e.level == 0) ((e.level == level) && is_other_left level t.marked older) resolved) [
      | inl root ↦ absurd (let at_root : e.level ≡ 0 = eqb-true e.level 0 root in let high : e.level ≡ level = here in omega arith)
      | inr left ↦ resolved_before look trail level e older e.reason (touch e t) leveled.0 leveled.1 low (and_parts (e.level == level) (is_other_left level t.marked older) left).1 before.none
    ])
    (λ stays. elim (and_cases (e.level == level) (is_other_left level t.marked older) (or_parts (e.level == 0) ((e.level == level) && is_other_left level t.marked older) stays).1) [
      | inl differs ↦ absurd (eqb-false e.level level differs here)
      | inr none ↦ first_stays trail level e older (touch e t) on here none before.none
    ])
  where
    here : e.level ≡ level
    here = elim (cases_lt e.level level) [
      | inl lower ↦ absurd (both_ways (is_other_left level t.marked (e ∷ older)) (none_left_below level t.marked (e ∷ older) leveled lower) before.left)
      | inr at_least ↦ omega arith
    ]

-- an entry of level 0 has a reason, and all older ones are of level 0
resolved_after : (look : Name → Option (List Literal)) (trail : List Entry) (level : ℕ) (e : Entry) (older : List Entry) (reason : Option Name) (t : Trace) → IsNextLevel (level_now older) e.level reason →
    IsLeveled older → e.level ≡ 0 → 0 < level → HasOneOfLevel trail level t.stays → IsOnTheWay trail level (resolve look e reason t) older
resolved_after look trail level e older None t next leveled root above one = absurd (let up : e.level ≡ level_now older + 1 = next in omega arith)
resolved_after look trail level e older (Some name) t next leveled root above one =
    inr (record { one = one; none_left = none_left_below level (variables_of (look name) ++ t.marked) older leveled (let same : e.level ≡ level_now older = next in omega arith) })

-- one more entry that stays
one_more_stays : (trail : List Entry) (level : ℕ) (e : Entry) (stays : List Entry) → IsOther trail level e → HasOneOfLevel trail level stays → HasOneOfLevel trail level (stays ++ e ∷ [])
one_more_stays trail level e stays other has = record {
  one = has.one;
  others = has.others ++ e ∷ [];
  entries = ap (λ entries. entries ++ e ∷ []) has.entries;
  on = has.on;
  one_level = has.one_level;
  each = one_more (IsOther trail level) has.others e has.each other;
}

-- a marked entry, once one of the level stays
marked_after : (look : Name → Option (List Literal)) (trail : List Entry) (level : ℕ) (e : Entry) (older : List Entry) (t : Trace) → IsOn trail e → IsLeveled (e ∷ older) → e.level ≤ level →
    0 < level → is_marked t.marked e.lit.variable ≡ true → IsAfter trail level t (e ∷ older) →
    IsOnTheWay trail level (settle look (is_resolved look level t.marked e older) e (touch e t)) older
marked_after look trail level e older t on leveled low above marked after =
    cond_both (is_resolved look level t.marked e older) (resolve look e e.reason (touch e t)) (stay e (touch e t)) (λ after. IsOnTheWay trail level after older)
    (λ resolved. elim (or_cases (e.level == 0) ((e.level == level) && is_other_left level t.marked older) resolved) [
      | inl root ↦ resolved_after look trail level e older e.reason (touch e t) leveled.0 leveled.1 (eqb-true e.level 0 root) above after.one
      | inr left ↦ absurd (lower (eqb-true e.level level (and_parts (e.level == level) (is_other_left level t.marked older) left).0))
    ])
    (λ stays. inr (record {
      one = one_more_stays trail level e t.stays (other (eqb-false e.level 0 (or_parts (e.level == 0) ((e.level == level) && is_other_left level t.marked older) stays).0)) after.one;
      none_left = parts.1;
    }))
  where
    parts : (((e.level == level) && is_marked t.marked e.lit.variable) ≡ false) × (is_other_left level t.marked older ≡ false)
    parts = or_parts ((e.level == level) && is_marked t.marked e.lit.variable) (is_other_left level t.marked older) after.none_left

    lower : e.level ≡ level → ⊥
    lower is = both_ways ((e.level == level) && is_marked t.marked e.lit.variable) parts.0 (and_from (e.level == level) (is_marked t.marked e.lit.variable) (eq-eqb e.level level is) marked)

    other : (e.level ≡ 0 → ⊥) → IsOther trail level e
    other above_root = record { on = on; above_root = let up : 1 ≤ e.level = grind arith in up; lower = let less : e.level < level = grind arith in less }

-- one step of the trace
step_one : (look : Name → Option (List Literal)) (trail : List Entry) (level : ℕ) (e : Entry) (older : List Entry) (t : Trace) → IsOn trail e → IsLeveled (e ∷ older) → e.level ≤ level →
    0 < level → IsOnTheWay trail level t (e ∷ older) → IsOnTheWay trail level (trace_step look level e older t) older
step_one look trail level e older t on leveled low above way =
    cond_both (is_marked t.marked e.lit.variable) (settle look (is_resolved look level t.marked e older) e (touch e t)) t (λ after. IsOnTheWay trail level after older)
    (λ marked. elim way [
      | inl before ↦ marked_before look trail level e older t on leveled low above before
      | inr after ↦ marked_after look trail level e older t on leveled low above marked after
    ])
    (λ unmarked. unmarked_step trail level e older t unmarked way)

trace_one : (look : Name → Option (List Literal)) (trail : List Entry) (level : ℕ) (rest : List Entry) (t : Trace) → AllByRecursion (IsOn trail) rest → IsLeveled rest → level_now rest ≤ level →
    0 < level → IsOnTheWay trail level t rest → IsOnTheWay trail level (trace look level rest t) []
trace_one look trail level [] t on leveled low above way = way
trace_one look trail level (e ∷ older) t on leveled low above way =
    trace_one look trail level older (trace_step look level e older t) on.1 leveled.1
    (let down : level_now older ≤ e.level = older_level (level_now older) e.level e.reason leveled.0 in omega arith) above
    (step_one look trail level e older t on.0 leveled low above way)

-- at the end no marked entry is left, so one stays
one_at_end : (trail : List Entry) (level : ℕ) (t : Trace) → IsOnTheWay trail level t [] → HasOneOfLevel trail level t.stays
one_at_end trail level t (inl before) = let clash : false ≡ true = before.left in cc
one_at_end trail level t (inr after) = after.one

left_by : (e : Entry) (older : List Entry) (v m : ℕ) (marked : List ℕ) (b : Bool) → (e.lit.variable == v) ≡ b → cond b (Some e.level) (level_of older v) ≡ Some m → is_marked marked v ≡ true →
    (level_of older v ≡ Some m → is_other_left m marked older ≡ true) → is_other_left m marked (e ∷ older) ≡ true
left_by e older v m marked true here found is_in later =
    or_left ((e.level == m) && is_marked marked e.lit.variable) (is_other_left m marked older)
    (and_from (e.level == m) (is_marked marked e.lit.variable) (eq-eqb e.level m (same_Some e.level m found)) (ap (λ w. is_marked marked w) (eqb-true e.lit.variable v here) ∙ is_in))
left_by e older v m marked false here found is_in later = or_right ((e.level == m) && is_marked marked e.lit.variable) (is_other_left m marked older) (later found)

-- a marked variable of the level is left
left_from_level : (trail : List Entry) (v m : ℕ) (marked : List ℕ) → level_of trail v ≡ Some m → is_marked marked v ≡ true → is_other_left m marked trail ≡ true
left_from_level [] v m marked found is_in = cc
left_from_level (e ∷ older) v m marked found is_in =
    left_by e older v m marked (e.lit.variable == v) refl found is_in (λ later. left_from_level older v m marked later is_in)

-- a clause with a literal of the level leaves one entry of that level, where no entry is of a higher one
pub trace_has_one : (look : Name → Option (List Literal)) (trail : List Entry) (conflict : Name) (lits : List Literal) (l : Literal) → HasDistinctVariables trail → IsLeveled trail →
    0 < level_now trail → look conflict ≡ Some lits → list_any (λ m. same m l) lits ≡ true → level_of trail l.variable ≡ Some (level_now trail) →
    HasOneOfLevel trail (level_now trail) (trace look (level_now trail) trail (first_trace look conflict)).stays
trace_has_one look trail conflict lits l distinct leveled above is there of_level =
    one_at_end trail (level_now trail) (trace look (level_now trail) trail (first_trace look conflict))
    (trace_one look trail (level_now trail) trail (first_trace look conflict) (each_on trail distinct) leveled (omega arith) above
    (inl (record { none = refl; left = left_from_level trail l.variable (level_now trail) (variables_of (look conflict)) of_level marked })))
  where
    marked : is_marked (variables_of (look conflict)) l.variable ≡ true
    marked =
        ap (λ o. is_marked (variables_of o) l.variable) is
        ∙ subst (λ ms. is_marked ms l.variable ≡ true) (append-nil (variables_of (Some lits))) (all_at (λ m. is_marked (variables_of (Some lits) ++ []) m.variable) lits l (marked_with lits []) there)
