-- Each hint of a lesson is the conflict or the reason of an entry that the hints lead to.
use Rattle.std.proofs.Common.{◌≡◌, ℕ, Bool, true, ◌&&◌, List, [], ◌∷◌, ap, ◌∙◌, sym, refl, inl, inr}
use Rattle.std.specs.Prelude.{Option, Some, None}
use Rattle.std.specs.List.{list_any, AllByRecursion}
use Rattle.std.proofs.lemmas.Bool.{and_from, and_parts, or_cases, or_left, or_right, cond_both}
use Rattle.lit_base.specs.Literal.{Literal}
use Rattle.lit_base.specs.Trail.{level_now}
use Rattle.lit_base.specs.Named.{same_name}
use Rattle.lit_base.specs.Analysis.{Trace, variables_of, is_marked, is_resolved, stay, resolve, touch, settle, trace_step, trace, first_trace, lesson_of, is_met, is_reason, is_led_to}
use Rattle.lit_base.specs.declared.trail.Entry.{Entry}
use Rattle.lit_base.specs.declared.name.Name.{Name}
use Rattle.lit_base.proofs.Known.{any_when}
use Rattle.lit_base.proofs.HeldClauses.{same_name-itself}
use Rattle.lit_base.proofs.Lists.{each_when}
use Rattle.lit_base.proofs.Touched.{met_more, or_nothing}

-- the conflict, or the reason of an entry whose variable one of the hints meets
abbrev IsLedTo : (Name → Option (List Literal)) → List Entry → Name → List Name → Name → Type 0
IsLedTo look trail conflict hints name = is_led_to look trail conflict hints name ≡ true

-- with more hints it is still
led_to_more : (look : Name → Option (List Literal)) (trail : List Entry) (conflict hint name : Name) (hints : List Name) → IsLedTo look trail conflict hints name → IsLedTo look trail conflict (hint ∷ hints) name
led_to_more look trail conflict hint name hints led =
    elim (or_cases (same_name name conflict) (list_any (λ e. is_reason name e.reason && is_met look hints e.lit.variable) trail) led) [
      | inl own ↦ or_left (same_name name conflict) (list_any (λ e. is_reason name e.reason && is_met look (hint ∷ hints) e.lit.variable) trail) own
      | inr some ↦ or_right (same_name name conflict) (list_any (λ e. is_reason name e.reason && is_met look (hint ∷ hints) e.lit.variable) trail)
          (any_when (λ e. is_reason name e.reason && is_met look hints e.lit.variable) (λ e. is_reason name e.reason && is_met look (hint ∷ hints) e.lit.variable)
          (λ e is. let parts = and_parts (is_reason name e.reason) (is_met look hints e.lit.variable) is in
          and_from (is_reason name e.reason) (is_met look (hint ∷ hints) e.lit.variable) parts.0
          (or_right (is_marked (variables_of (look hint)) e.lit.variable) (is_met look hints e.lit.variable) parts.1)) trail some)
    ]

-- what each step of the trace keeps
record AreLedTo (look : Name → Option (List Literal)) (trail : List Entry) (conflict : Name) (t : Trace) : Type 0 where
  met : (v : ℕ) → is_marked t.marked v ≡ is_met look t.hints v
  each : AllByRecursion (IsLedTo look trail conflict t.hints) t.hints

-- the rest is a part of the trail
abbrev IsPart : List Entry → List Entry → Type 0
IsPart rest trail = (p : Entry → Bool) → list_any p rest ≡ true → list_any p trail ≡ true

reason_itself : (e : Entry) (name : Name) (reason : Option Name) → reason ≡ Some name → is_reason name reason ≡ true
reason_itself e name reason is = ap (is_reason name) is ∙ same_name-itself name

resolve_led : (look : Name → Option (List Literal)) (trail : List Entry) (conflict : Name) (e : Entry) (reason : Option Name) (t : Trace) → e.reason ≡ reason → ((p : Entry → Bool) → p e ≡ true → list_any p trail ≡ true) →
    is_marked t.marked e.lit.variable ≡ true → AreLedTo look trail conflict t → AreLedTo look trail conflict (resolve look e reason (touch e t))
resolve_led look trail conflict e None t is there marked before = record { met = before.met; each = before.each }
resolve_led look trail conflict e (Some name) t is there marked before = record {
  met = λ v. met_more look name t.marked t.hints v (before.met v);
  each = (
    led_to_more look trail conflict name name t.hints
        (or_right (same_name name conflict) (list_any (λ s. is_reason name s.reason && is_met look t.hints s.lit.variable) trail)
        (there (λ s. is_reason name s.reason && is_met look t.hints s.lit.variable)
        (and_from (is_reason name e.reason) (is_met look t.hints e.lit.variable) (reason_itself e name e.reason is) (sym (before.met e.lit.variable) ∙ marked)))),
    each_when (IsLedTo look trail conflict t.hints) (IsLedTo look trail conflict (name ∷ t.hints)) (λ hint led. led_to_more look trail conflict name hint t.hints led) t.hints before.each,
  );
}

step_led : (look : Name → Option (List Literal)) (trail : List Entry) (conflict : Name) (level : ℕ) (e : Entry) (older : List Entry) (t : Trace) → IsPart (e ∷ older) trail → AreLedTo look trail conflict t →
    AreLedTo look trail conflict (trace_step look level e older t)
step_led look trail conflict level e older t part before =
    cond_both (is_marked t.marked e.lit.variable) (settle look (is_resolved look level t.marked e older) e (touch e t)) t (AreLedTo look trail conflict)
    (λ marked. cond_both (is_resolved look level t.marked e older) (resolve look e e.reason (touch e t)) (stay e (touch e t)) (AreLedTo look trail conflict)
    (λ resolved. resolve_led look trail conflict e e.reason t refl (λ p is. part p (or_left (p e) (list_any p older) is)) marked before)
    (λ stays. record { met = before.met; each = before.each }))
    (λ unmarked. before)

trace_led : (look : Name → Option (List Literal)) (trail : List Entry) (conflict : Name) (level : ℕ) (rest : List Entry) (t : Trace) → IsPart rest trail → AreLedTo look trail conflict t →
    AreLedTo look trail conflict (trace look level rest t)
trace_led look trail conflict level [] t part before = before
trace_led look trail conflict level (e ∷ older) t part before =
    trace_led look trail conflict level older (trace_step look level e older t) (λ p some. part p (or_right (p e) (list_any p older) some)) (step_led look trail conflict level e older t part before)

-- each hint is the conflict, or the reason of an entry whose variable has a literal in a clause that a hint names
pub hints_led : (look : Name → Option (List Literal)) (trail : List Entry) (conflict : Name) →
    AllByRecursion (IsLedTo look trail conflict (lesson_of look trail conflict).hints) (lesson_of look trail conflict).hints
hints_led look trail conflict =
    (trace_led look trail conflict (level_now trail) trail (first_trace look conflict) (λ p some. some)
    (record {
      met = λ v. or_nothing (is_marked (variables_of (look conflict)) v);
      each = (or_left (same_name conflict conflict) (list_any (λ e. is_reason conflict e.reason && is_met look (conflict ∷ []) e.lit.variable) trail) (same_name-itself conflict), tt);
    })).each
