-- The hints of a lesson name clauses that are found.
use Rattle.std.proofs.Common.{ℕ, List, [], ◌∷◌, refl}
use Rattle.std.specs.Prelude.{Option, Some, None, IsSome}
use Rattle.std.specs.List.{AllByRecursion}
use Rattle.std.proofs.lemmas.Bool.{cond_both}
use Rattle.lit_base.specs.Literal.{Literal}
use Rattle.lit_base.specs.Fits.{HasReason, IsImpliedBy, IsFalsifiedBy, FitsClauses, IsConflict}
use Rattle.lit_base.specs.Trail.{level_now}
use Rattle.lit_base.specs.Analysis.{Trace, is_marked, is_resolved, stay, resolve, touch, settle, trace_step, trace, first_trace, lesson_of}
use Rattle.lit_base.specs.declared.trail.Entry.{Entry}
use Rattle.lit_base.specs.declared.name.Name.{Name}

-- each hint finds a clause
abbrev AreFound : (Name → Option (List Literal)) → List Name → Type 0
AreFound look hints = AllByRecursion (λ hint. IsSome (look hint)) hints

implied_found : (older : List Entry) (l : Literal) (o : Option (List Literal)) → IsImpliedBy older l o → IsSome o
implied_found older l None implied = absurd implied
implied_found older l (Some lits) implied = refl

conflict_found : (trail : List Entry) (o : Option (List Literal)) → IsFalsifiedBy trail o → IsSome o
conflict_found trail None falsified = absurd falsified
conflict_found trail (Some lits) falsified = refl

-- the reason of an entry becomes a hint
resolve_found : (look : Name → Option (List Literal)) (older : List Entry) (e : Entry) (reason : Option Name) (t : Trace) → HasReason look older e.lit reason → AreFound look t.hints →
    AreFound look (resolve look e reason t).hints
resolve_found look older e None t has before = before
resolve_found look older e (Some name) t has before = (implied_found older e.lit (look name) has, before)

step_found : (look : Name → Option (List Literal)) (level : ℕ) (older : List Entry) (e : Entry) (t : Trace) → HasReason look older e.lit e.reason → AreFound look t.hints →
    AreFound look (trace_step look level e older t).hints
step_found look level older e t has before =
    cond_both (is_marked t.marked e.lit.variable) (settle look (is_resolved look level t.marked e older) e (touch e t)) t (λ after. AreFound look after.hints)
    (λ marked. cond_both (is_resolved look level t.marked e older) (resolve look e e.reason (touch e t)) (stay e (touch e t)) (λ after. AreFound look after.hints)
    (λ resolved. resolve_found look older e e.reason (touch e t) has before)
    (λ stays. before))
    (λ unmarked. before)

trace_found : (look : Name → Option (List Literal)) (level : ℕ) (rest : List Entry) (t : Trace) → FitsClauses look rest → AreFound look t.hints → AreFound look (trace look level rest t).hints
trace_found look level [] t fits before = before
trace_found look level (e ∷ older) t fits before =
    trace_found look level older (trace_step look level e older t) fits.1 (step_found look level older e t fits.0 before)

-- each hint is a reason on the trail or the conflict
pub hints_found : (look : Name → Option (List Literal)) (trail : List Entry) (conflict : Name) → FitsClauses look trail → IsConflict look trail conflict →
    AllByRecursion (λ hint. IsSome (look hint)) (lesson_of look trail conflict).hints
hints_found look trail conflict fits falsified =
    trace_found look (level_now trail) trail (first_trace look conflict) fits (conflict_found trail (look conflict) falsified, tt)
