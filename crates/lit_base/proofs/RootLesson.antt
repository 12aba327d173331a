-- At level 0 the lemma that a conflict teaches is empty.
use Rattle.std.proofs.Common.{◌≡◌, ℕ, ◌==◌, ◌+◌, Bool, true, false, ◌&&◌, List, [], ◌∷◌, refl, ap, sym, ◌∙◌, arith}
use Rattle.std.specs.Prelude.{Option, Some, None, map}
use Rattle.std.proofs.lemmas.Bool.{or_left, eq-eqb, cond_both}
use Rattle.lit_base.specs.Literal.{Literal, negation}
use Rattle.lit_base.specs.declared.trail.Entry.{Entry}
use Rattle.lit_base.specs.declared.name.Name.{Name}
use Rattle.lit_base.specs.Trail.{level_now}
use Rattle.lit_base.specs.Fits.{IsNextLevel, IsLeveled}
use Rattle.lit_base.specs.Analysis.{Trace, is_marked, is_resolved, is_other_left, resolve, touch, settle, trace_step, trace, first_trace, lesson_of}

-- an entry of level 0 has a reason, and the older ones are of level 0 too
root_level : (now level : ℕ) (reason : Option Name) → IsNextLevel now level reason → level ≡ 0 → now ≡ 0
root_level now level None next root = absurd (let e : level ≡ now + 1 = next in omega arith)
root_level now level (Some name) next root = sym next ∙ root

stays_by : (look : Name → Option (List Literal)) (e : Entry) (now level : ℕ) (reason : Option Name) (t : Trace) → IsNextLevel now level reason → level ≡ 0 → t.stays ≡ [] →
    (resolve look e reason t).stays ≡ []
stays_by look e now level None t next root none = absurd (let e : level ≡ now + 1 = next in omega arith)
stays_by look e now level (Some name) t next root none = none

settled_by : (look : Name → Option (List Literal)) (e : Entry) (resolved : Bool) (t : Trace) → resolved ≡ true → (resolve look e e.reason t).stays ≡ [] → (settle look resolved e t).stays ≡ []
settled_by look e true t is none = none
settled_by look e false t is none = cc

-- no entry of level 0 stays
root_step : (look : Name → Option (List Literal)) (level : ℕ) (e : Entry) (older : List Entry) (t : Trace) → IsNextLevel (level_now older) e.level e.reason → e.level ≡ 0 → t.stays ≡ [] →
    (trace_step look level e older t).stays ≡ []
root_step look level e older t next root none =
    cond_both (is_marked t.marked e.lit.variable) (settle look (is_resolved look level t.marked e older) e (touch e t)) t (λ after. after.stays ≡ [])
    (λ marked. settled_by look e (is_resolved look level t.marked e older) (touch e t)
    (or_left (e.level == 0) ((e.level == level) && is_other_left level t.marked older) (eq-eqb e.level 0 root))
    (stays_by look e (level_now older) e.level e.reason (touch e t) next root none))
    (λ unmarked. none)

root_trace : (look : Name → Option (List Literal)) (level : ℕ) (trail : List Entry) (t : Trace) → IsLeveled trail → level_now trail ≡ 0 → t.stays ≡ [] → (trace look level trail t).stays ≡ []
root_trace look level [] t leveled root none = none
root_trace look level (e ∷ older) t leveled root none =
    root_trace look level older (trace_step look level e older t) leveled.1 (root_level (level_now older) e.level e.reason leveled.0 root)
    (root_step look level e older t leveled.0 root none)

-- at level 0 nothing stays, so the lemma is empty
pub root_lesson_empty : (look : Name → Option (List Literal)) (trail : List Entry) (conflict : Name) → IsLeveled trail → level_now trail ≡ 0 → (lesson_of look trail conflict).lits ≡ []
root_lesson_empty look trail conflict leveled root =
    ap (λ stays. map (λ e. negation e.lit) stays) (root_trace look (level_now trail) trail (first_trace look conflict) leveled root refl)
