-- A step of the walk, against that of the definition.
use Rattle.std.proofs.Common.{◌≡◌, ℕ, ◌==◌, ◌+◌, ◌-◌, ◌≤◌, ◌<◌, Bool, true, false, ◌&&◌, ◌||◌, List, [], ◌∷◌, length, drop, refl, ap, ◌∙◌, sym, arith}
use Rattle.std.specs.Prelude.{Option, Some, None, nat_lt}
use Rattle.std.proofs.lemmas.Bool.{cond-true, cond-false}
use Rattle.std.proofs.lemmas.List.{drop-drop}
use Rattle.std.proofs.lemmas.List.Folds.{list_any-append}
use Rattle.lit_base.specs.Literal.{Literal}
use Rattle.lit_base.specs.declared.trail.Entry.{Entry}
use Rattle.lit_base.specs.declared.name.Name.{Name}
use Rattle.lit_base.specs.Analysis.{Trace, variables_of, is_marked, is_resolved, touch, resolve, settle, trace}
use Rattle.first_uip.specs.Marks.{is_flagged, AreFlagsOf, flagged_count, this_level}
use Rattle.first_uip.specs.Places.{before}
use Rattle.first_uip.specs.Reasons.{reason_variables, resolved_variables}
use Rattle.first_uip.specs.Walked.{Traces, IsWalked, first_step}
use Rattle.first_uip.specs.declared.walk.Walk.{Walk}
use Rattle.first_uip.proofs.Counted.{left_by_count}

-- an entry whose flag isn't set is passed over
pub step_unmarked : (look : Name → Option (List Literal)) (level : ℕ) (rest older : List Entry) (e : Entry) (flags : List Bool) (t : Trace) → rest ≡ e ∷ older → AreFlagsOf t.marked flags →
    is_flagged flags e.lit.variable ≡ false → first_step look level rest t ≡ t
step_unmarked look level rest older e flags t is are unset =
    ap (λ es. first_step look level es t) is
    ∙ cond-false (is_marked t.marked e.lit.variable) (settle look (is_resolved look level t.marked e older) e (touch e t)) t (sym (are e.lit.variable) ∙ unset)

-- one whose flag is set is resolved or stays
pub step_marked : (look : Name → Option (List Literal)) (level left : ℕ) (rest older : List Entry) (e : Entry) (flags : List Bool) (resolved : Bool) (t : Trace) → rest ≡ e ∷ older →
    AreFlagsOf t.marked flags → is_flagged flags e.lit.variable ≡ true → left ≡ flagged_count (this_level level) flags older →
    resolved ≡ ((e.level == 0) || ((e.level == level) && nat_lt 0 left)) → first_step look level rest t ≡ settle look resolved e (touch e t)
step_marked look level left rest older e flags resolved t is are is_set left_is resolved_is =
    ap (λ es. first_step look level es t) is
    ∙ (cond-true (is_marked t.marked e.lit.variable) (settle look (is_resolved look level t.marked e older) e (touch e t)) t (sym (are e.lit.variable) ∙ is_set)
    ∙ ap (λ b. settle look b e (touch e t))
    (sym (resolved_is ∙ ap (λ b. (e.level == 0) || ((e.level == level) && b)) (ap (λ n. nat_lt 0 n) left_is ∙ left_by_count level flags t.marked older are))))

-- what the reason of a resolved entry has is flagged
settle_marks : (look : Name → Option (List Literal)) (e : Entry) (resolved : Bool) (t : Trace) (v : ℕ) →
    is_marked (settle look resolved e t).marked v ≡ (is_marked (resolved_variables look resolved e.reason) v || is_marked t.marked v)
settle_marks look e false t v = refl
settle_marks look e true t v = by_reason e.reason
  where
    by_reason : (reason : Option Name) → is_marked (resolve look e reason t).marked v ≡ (is_marked (reason_variables look reason) v || is_marked t.marked v)
    by_reason None = refl
    by_reason (Some name) = list_any-append (λ m. m == v) (variables_of (look name)) t.marked

pub settle_flags : (look : Name → Option (List Literal)) (e : Entry) (resolved : Bool) (t : Trace) (flags after : List Bool) → AreFlagsOf t.marked flags →
    ((v : ℕ) → is_flagged after v ≡ (is_marked (resolved_variables look resolved e.reason) v || is_flagged flags v)) → AreFlagsOf (settle look resolved e (touch e t)).marked after
settle_flags look e resolved t flags after are more v =
    more v ∙ (ap (λ b. is_marked (resolved_variables look resolved e.reason) v || b) (are v) ∙ sym (settle_marks look e resolved (touch e t) v))

-- the trace of some entries is their first step, and the trace of the others
trace_first : (look : Name → Option (List Literal)) (level : ℕ) (rest : List Entry) (t : Trace) → trace look level rest t ≡ trace look level (drop 1 rest) (first_step look level rest t)
trace_first look level [] t = refl
trace_first look level (e ∷ older) t = refl

pub trace_next : (look : Name → Option (List Literal)) (level place : ℕ) (trail : List Entry) (t : Trace) → place < length trail →
    trace look level (before (place + 1) trail) t ≡ trace look level (before place trail) (first_step look level (before (place + 1) trail) t)
trace_next look level place trail t below =
    let one_less : length trail - (place + 1) + 1 ≡ length trail - place = omega arith in
    trace_first look level (before (place + 1) trail) t
    ∙ ap (λ rest. trace look level rest (first_step look level (before (place + 1) trail) t)) (drop-drop 1 (length trail - (place + 1)) trail ∙ ap (λ i. drop i trail) one_less)

-- one step further
pub walked_more : (look : Name → Option (List Literal)) (level place : ℕ) (trail : List Entry) (walk after : Walk) (start : Trace) → 0 < place → place ≤ length trail →
    ((t : Trace) → Traces level walk t → Traces level after (first_step look level (before (place - 1 + 1) trail) t)) → IsWalked look level place trail walk start →
    IsWalked look level (place - 1) trail after start
walked_more look level place trail walk after start above within step walked =
    let next : place - 1 + 1 ≡ place = omega arith in
    record {
      trace_here = first_step look level (before (place - 1 + 1) trail) walked.trace_here;
      stands = step walked.trace_here walked.stands;
      rest = sym (trace_next look level (place - 1) trail walked.trace_here (omega arith)) ∙ (ap (λ p. trace look level (before p trail) walked.trace_here) next ∙ walked.rest);
    }
