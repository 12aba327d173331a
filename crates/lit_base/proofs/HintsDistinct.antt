-- The hints of a lesson are distinct names.
use Rattle.std.proofs.Common.{◌≡◌, ℕ, true, false, ◌||◌, List, [], ◌∷◌, subst, inl, inr}
use Rattle.std.specs.Prelude.{⊤, Option, Some, None}
use Rattle.std.specs.List.{list_any, AllByRecursion, IsDistinct}
use Rattle.std.proofs.lemmas.Bool.{or_cases, false_from_ne_true, cond_both}
use Rattle.lit_base.specs.Literal.{Literal, same}
use Rattle.lit_base.specs.Trail.{is_false, is_free, level_now}
use Rattle.lit_base.specs.Fits.{HasDistinctVariables, IsImpliedBy, HasReason, FitsClauses, IsFitting, IsFalsifiedBy, IsConflict}
use Rattle.lit_base.specs.Named.{same_name}
use Rattle.lit_base.specs.Analysis.{Trace, is_marked, is_resolved, stay, resolve, touch, settle, trace_step, trace, first_trace, lesson_of}
use Rattle.lit_base.specs.declared.trail.Entry.{Entry}
use Rattle.lit_base.specs.declared.name.Name.{Name}
use Rattle.lit_base.proofs.DistinctLits.{same-true}
use Rattle.lit_base.proofs.Known.{all_at}
use Rattle.lit_base.proofs.Standing.{Stands, negation_stands, not_both_stand, free_and_found, newest_stands, newest_extends}
use Rattle.lit_base.proofs.HeldClauses.{same_name-true}
use Rattle.lit_base.proofs.Lists.{each_when}

-- no literal of the clause that was looked up stands on the trail
abbrev NoneStands : List Entry → Option (List Literal) → Type 0
NoneStands trail None = ⊤
NoneStands trail (Some lits) = (l : Literal) → list_any (λ m. same m l) lits ≡ true → Stands trail l → ⊥

-- none stands on the older entries either
none_older : (older : List Entry) (e : Entry) (o : Option (List Literal)) → is_free older e.lit.variable ≡ true → NoneStands (e ∷ older) o → NoneStands older o
none_older older e None free none = tt
none_older older e (Some lits) free none = λ l held stands. none l held (newest_extends e older free l.variable l.positive stands)

-- none of the literals of a conflict stands
conflict_none : (trail : List Entry) (o : Option (List Literal)) → IsFalsifiedBy trail o → NoneStands trail o
conflict_none trail None falsified = absurd falsified
conflict_none trail (Some lits) falsified = λ l held stands. not_both_stand trail l stands (negation_stands trail l (all_at (is_false trail) lits l falsified held))

-- of the literals of a reason none stands on the older entries: its own is free, and the others are false
reason_none : (older : List Entry) (l : Literal) (o : Option (List Literal)) → is_free older l.variable ≡ true → IsImpliedBy older l o → NoneStands older o
reason_none older l None free implied = absurd implied
reason_none older l (Some lits) free implied = λ m held stands.
    elim (or_cases (is_false older m) (same m l) (all_at (λ k. is_false older k || same k l) lits m implied.others held)) [
      | inl untrue ↦ not_both_stand older m stands (negation_stands older m untrue)
      | inr here ↦ free_and_found _ _ free (subst (λ k. Stands older k) (same-true m l here) stands)
    ]

-- a clause of which no literal stands doesn't imply the newest entry's literal
not_implied : (older : List Entry) (e : Entry) (o : Option (List Literal)) → NoneStands (e ∷ older) o → IsImpliedBy older e.lit o → ⊥
not_implied older e None none implied = implied
not_implied older e (Some lits) none implied = none e.lit implied.held (newest_stands e older)

-- so it is not that entry's reason
names_differ : (look : Name → Option (List Literal)) (older : List Entry) (e : Entry) (name hint : Name) → IsImpliedBy older e.lit (look name) → NoneStands (e ∷ older) (look hint) →
    same_name name hint ≡ false
names_differ look older e name hint implied none =
    false_from_ne_true (same_name name hint) (λ is. not_implied older e (look hint) none (subst (λ n. IsImpliedBy older e.lit (look n)) (same_name-true name hint is) implied))

-- what each step of the trace keeps: the hints are distinct, and of their clauses no literal stands on the rest of the trail
record AreApart (look : Name → Option (List Literal)) (rest : List Entry) (hints : List Name) : Type 0 where
  distinct : IsDistinct same_name hints
  none : AllByRecursion (λ hint. NoneStands rest (look hint)) hints

apart_older : (look : Name → Option (List Literal)) (older : List Entry) (e : Entry) (hints : List Name) → is_free older e.lit.variable ≡ true → AreApart look (e ∷ older) hints →
    AreApart look older hints
apart_older look older e hints free before = record {
  distinct = before.distinct;
  none = each_when (λ hint. NoneStands (e ∷ older) (look hint)) (λ hint. NoneStands older (look hint)) (λ hint none. none_older older e (look hint) free none) hints before.none;
}

-- the reason of an entry becomes a hint
resolve_apart : (look : Name → Option (List Literal)) (older : List Entry) (e : Entry) (reason : Option Name) (t : Trace) → is_free older e.lit.variable ≡ true → HasReason look older e.lit reason →
    AreApart look (e ∷ older) t.hints → AreApart look older (resolve look e reason t).hints
unfolding IsDistinct
resolve_apart look older e None t free has before = apart_older look older e t.hints free before
resolve_apart look older e (Some name) t free has before = record {
  distinct = (
    each_when (λ hint. NoneStands (e ∷ older) (look hint)) (λ hint. same_name name hint ≡ false) (λ hint none. names_differ look older e name hint has none) t.hints before.none,
    before.distinct,
  );
  none = (reason_none older e.lit (look name) free has, (apart_older look older e t.hints free before).none);
}

step_apart : (look : Name → Option (List Literal)) (level : ℕ) (older : List Entry) (e : Entry) (t : Trace) → is_free older e.lit.variable ≡ true → HasReason look older e.lit e.reason →
    AreApart look (e ∷ older) t.hints → AreApart look older (trace_step look level e older t).hints
step_apart look level older e t free has before =
    cond_both (is_marked t.marked e.lit.variable) (settle look (is_resolved look level t.marked e older) e (touch e t)) t (λ after. AreApart look older after.hints)
    (λ marked. cond_both (is_resolved look level t.marked e older) (resolve look e e.reason (touch e t)) (stay e (touch e t)) (λ after. AreApart look older after.hints)
    (λ resolved. resolve_apart look older e e.reason (touch e t) free has before)
    (λ stays. apart_older look older e t.hints free before))
    (λ unmarked. apart_older look older e t.hints free before)

trace_apart : (look : Name → Option (List Literal)) (level : ℕ) (rest : List Entry) (t : Trace) → HasDistinctVariables rest → FitsClauses look rest → AreApart look rest t.hints →
    AreApart look [] (trace look level rest t).hints
trace_apart look level [] t distinct fits before = before
trace_apart look level (e ∷ older) t distinct fits before =
    trace_apart look level older (trace_step look level e older t) distinct.1 fits.1 (step_apart look level older e t distinct.0 fits.0 before)

-- at first the conflict is the only hint
first_apart : (look : Name → Option (List Literal)) (trail : List Entry) (conflict : Name) → IsConflict look trail conflict → AreApart look trail (first_trace look conflict).hints
unfolding IsDistinct
first_apart look trail conflict falsified = record { distinct = (tt, tt); none = (conflict_none trail (look conflict) falsified, tt) }

-- no clause is the reason of two entries, and none is both a reason and the conflict
pub hints_distinct : (look : Name → Option (List Literal)) (trail : List Entry) (conflict : Name) → IsFitting look trail → IsConflict look trail conflict →
    IsDistinct same_name (lesson_of look trail conflict).hints
hints_distinct look trail conflict fitting is =
    (trace_apart look (level_now trail) trail (first_trace look conflict) fitting.distinct fitting.fits (first_apart look trail conflict is)).distinct
