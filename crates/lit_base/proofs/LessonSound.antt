-- The lemma that a conflict teaches follows from its hints.
use Rattle.std.proofs.Common.{◌≡◌, ℕ, ◌==◌, ◌+◌, Bool, true, false, cond, not, ◌||◌, List, [], ◌∷◌, ◌++◌, append-nil, refl, ap, sym, ◌∙◌, subst, inl, inr}
use Rattle.std.specs.Prelude.{map, Option, Some, None}
use Rattle.std.specs.List.{list_all, AllByRecursion}
use Rattle.std.proofs.lemmas.Bool.{and_parts, and_from, or_cases, or_left, or_right, eqb-true, eq-eqb, cond_both, true≢false}
use Rattle.std.proofs.lemmas.List.Folds.{list_any-append, list_all-append}
use Rattle.std.proofs.lemmas.Option.{same_Some}
use Rattle.lit_base.specs.Literal.{Literal, negation, same}
use Rattle.lit_base.specs.declared.trail.Entry.{Entry}
use Rattle.lit_base.specs.declared.name.Name.{Name}
use Rattle.lit_base.specs.Trail.{sign_of, is_false, level_now}
use Rattle.lit_base.specs.Walk.{holds, fails, status_of, walk, walk_at, is_tautology, FollowsByHints}
use Rattle.lit_base.specs.Fits.{HasDistinctVariables, IsImplied, IsImpliedBy, HasReason, FitsClauses, IsFalsifiedBy, IsConflict}
use Rattle.lit_base.specs.Analysis.{Trace, variables_of, is_marked, is_resolved, stay, resolve, touch, settle, trace_step, trace, first_trace, lesson_from, lesson_of}
use Rattle.lit_base.specs.declared.proof.ClauseStatus.{ClauseStatus}
use Rattle.lit_base.specs.declared.proof.ClauseStatus.TheVariants.{Satisfied, Falsified, Implies, Unresolved}
use Rattle.lit_base.specs.declared.proof.Judged.{Judged}
use Rattle.lit_base.specs.declared.proof.Judged.TheVariants.{Follows}
use Rattle.lit_base.proofs.DistinctLits.{same-true, literal_at}
use Rattle.lit_base.proofs.Known.{all_any, all_when, all_at, same_itself, Tells, status_tells, IsOpen, negation-negation}
use Rattle.lit_base.proofs.Standing.{Stands, negation_stands, not_both_stand, Extends, newest_stands, newest_extends}

-- each literal that is held true stands on the trail
abbrev AreStanding : List Entry → List Literal → Type 0
AreStanding trail known = (l : Literal) → holds known l ≡ true → Stands trail l

-- of each marked variable that stands on the rest of the trail, the literal is held true
abbrev AreMarkedHeld : List ℕ → List Entry → List Literal → Type 0
AreMarkedHeld marked rest known = (v : ℕ) (sign : Bool) → sign_of rest v ≡ Some sign → is_marked marked v ≡ true → holds known (record { variable = v; positive = sign }) ≡ true

-- literals that stand, with those of the entries that stay and of the marked ones on the rest, begin a walk over the hints that follows
abbrev IsReady : (Name → Option (List Literal)) → List Entry → Trace → List Entry → Type 0
IsReady look trail t rest =
    (known : List Literal) → AreMarkedHeld t.marked rest known → list_all (λ e. holds known e.lit) t.stays ≡ true → AreStanding trail known →
    (place : ℕ) → walk place known (map look t.hints) ≡ Follows

all_both : {X : Type 0} (p q r : X → Bool) → ((x : X) → p x ≡ true → q x ≡ true → r x ≡ true) → (xs : List X) → list_all p xs ≡ true → list_all q xs ≡ true → list_all r xs ≡ true
all_both p q r step [] all others = refl
all_both p q r step (x ∷ xs) all others =
    let first = and_parts (p x) (list_all p xs) all in
    let second = and_parts (q x) (list_all q xs) others in
    and_from (r x) (list_all r xs) (step x first.0 second.0) (all_both p q r step xs first.1 second.1)

-- the variables of a clause are marked once they are added to the marks
pub marked_with : (lits : List Literal) (marked : List ℕ) → list_all (λ m. is_marked (map (λ l. l.variable) lits ++ marked) m.variable) lits ≡ true
marked_with lits marked =
    all_when (λ m. is_marked (map (λ l. l.variable) lits) m.variable) (λ m. is_marked (map (λ l. l.variable) lits ++ marked) m.variable)
    (λ m is. list_any-append (λ v. v == m.variable) (map (λ l. l.variable) lits) marked ∙ or_left (is_marked (map (λ l. l.variable) lits) m.variable) (is_marked marked m.variable) is)
    lits (own_marked lits)
  where
    own_marked : (lits : List Literal) → list_all (λ m. is_marked (map (λ l. l.variable) lits) m.variable) lits ≡ true
    own_marked [] = refl
    own_marked (l ∷ ls) =
        and_from (is_marked (map (λ k. k.variable) (l ∷ ls)) l.variable) (list_all (λ m. is_marked (map (λ k. k.variable) (l ∷ ls)) m.variable) ls)
        (or_left (l.variable == l.variable) (is_marked (map (λ k. k.variable) ls) l.variable) (eq-eqb l.variable l.variable refl))
        (all_when (λ m. is_marked (map (λ k. k.variable) ls) m.variable) (λ m. is_marked (map (λ k. k.variable) (l ∷ ls)) m.variable)
        (λ m is. or_right (l.variable == m.variable) (is_marked (map (λ k. k.variable) ls) m.variable) is) ls (own_marked ls))

pub still_marked : (more marked : List ℕ) (v : ℕ) → is_marked marked v ≡ true → is_marked (more ++ marked) v ≡ true
still_marked more marked v is = list_any-append (λ m. m == v) more marked ∙ or_right (is_marked more v) (is_marked marked v) is

-- no literal is held true together with its negation
not_both_held : (trail : List Entry) (known : List Literal) (l : Literal) → AreStanding trail known → holds known l ≡ true → fails known l ≡ true → ⊥
not_both_held trail known l stand plain negated = not_both_stand trail l (stand l plain) (stand (negation l) negated)

-- a literal that is false on the rest, of a marked variable, fails
false_fails : (rest : List Entry) (marked : List ℕ) (known : List Literal) (m : Literal) → AreMarkedHeld marked rest known →
    is_marked marked m.variable ≡ true → is_false rest m ≡ true → fails known m ≡ true
false_fails rest marked known m held is_in is = held m.variable (not m.positive) (negation_stands rest m is) is_in

-- marks and an entry whose literal is held true
held_with_newest : (e : Entry) (older : List Entry) (marked : List ℕ) (known : List Literal) → AreMarkedHeld marked older known → holds known e.lit ≡ true → AreMarkedHeld marked (e ∷ older) known
held_with_newest e older marked known held newest v sign found is_in = by_variable (e.lit.variable == v) refl found
  where
    by_variable : (b : Bool) → (e.lit.variable == v) ≡ b → cond b (Some e.lit.positive) (sign_of older v) ≡ Some sign → holds known (record { variable = v; positive = sign }) ≡ true
    by_variable true here found = subst (λ l. holds known l ≡ true) (literal_at e.lit.variable v e.lit.positive sign (eqb-true e.lit.variable v here) (same_Some e.lit.positive sign found)) newest
    by_variable false here found = held v sign found is_in

-- marks of older entries, where the newest entry's variable isn't marked
held_without_newest : (e : Entry) (older : List Entry) (marked : List ℕ) (known : List Literal) → AreMarkedHeld marked older known → is_marked marked e.lit.variable ≡ false →
    AreMarkedHeld marked (e ∷ older) known
held_without_newest e older marked known held unmarked v sign found is_in = by_variable (e.lit.variable == v) refl found
  where
    by_variable : (b : Bool) → (e.lit.variable == v) ≡ b → cond b (Some e.lit.positive) (sign_of older v) ≡ Some sign → holds known (record { variable = v; positive = sign }) ≡ true
    by_variable true here found = absurd (true≢false (sym is_in ∙ (ap (λ w. is_marked marked w) (sym (eqb-true e.lit.variable v here)) ∙ unmarked)))
    by_variable false here found = held v sign found is_in

-- the literal of a reason is the one that doesn't fail
open_is_own : (known lits : List Literal) (own l : Literal) → list_all (λ m. fails known m || same m own) lits ≡ true → IsOpen known lits l → l ≡ own
open_is_own known lits own l all there =
    elim (or_cases (fails known l) (same l own) (all_at (λ m. fails known m || same m own) lits l all there.found.1)) [
      | inl failing ↦ absurd (true≢false (sym failing ∙ there.found.0))
      | inr here ↦ same-true l own here
    ]

-- a clause all of whose literals fail but one, at the walk: the literal is true, becomes true, or the clause is falsified
walk_at_reason : (trail : List Entry) (known lits : List Literal) (own : Literal) (place : ℕ) (later : List Literal → Judged) (status : ClauseStatus) → AreStanding trail known →
    list_all (λ m. fails known m || same m own) lits ≡ true → Tells known lits status →
    (holds known own ≡ true → later known ≡ Follows) → later (own ∷ known) ≡ Follows → walk_at place known status later ≡ Follows
walk_at_reason trail known lits own place later Satisfied stand all tells held added =
    let found = all_any (λ m. fails known m || same m own) (holds known) lits all tells in
    elim (or_cases (fails known found.0) (same found.0 own) found.1) [
      | inl failing ↦ absurd (not_both_held trail known found.0 stand found.2 failing)
      | inr here ↦ held (subst (λ m. holds known m ≡ true) (same-true found.0 own here) found.2)
    ]
walk_at_reason trail known lits own place later Falsified stand all tells held added = refl
walk_at_reason trail known lits own place later (Implies l) stand all tells held added =
    ap (λ m. later (m ∷ known)) (open_is_own known lits own l all tells.0) ∙ added
walk_at_reason trail known lits own place later Unresolved stand all tells held added =
    absurd (true≢false (sym all ∙ subst (λ l. list_all (λ m. fails known m || same m l) lits ≡ false) (open_is_own known lits own tells.0 all tells.1) tells.2))

-- one more literal of the trail
standing_with : (trail : List Entry) (known : List Literal) (own : Literal) → AreStanding trail known → Stands trail own → AreStanding trail (own ∷ known)
standing_with trail known own stand one l held = elim (or_cases (same own l) (holds known l) held) [
  | inl here ↦ subst (λ m. Stands trail m) (same-true own l here) one
  | inr earlier ↦ stand l earlier
]

marked_held_with : (marked : List ℕ) (rest : List Entry) (known : List Literal) (own : Literal) → AreMarkedHeld marked rest known → AreMarkedHeld marked rest (own ∷ known)
marked_held_with marked rest known own held v sign found is_in =
    or_right (same own (record { variable = v; positive = sign })) (holds known (record { variable = v; positive = sign })) (held v sign found is_in)

stays_held_with : (stays : List Entry) (known : List Literal) (own : Literal) → list_all (λ e. holds known e.lit) stays ≡ true → list_all (λ e. holds (own ∷ known) e.lit) stays ≡ true
stays_held_with stays known own all = all_when (λ e. holds known e.lit) (λ e. holds (own ∷ known) e.lit) (λ e is. or_right (same own e.lit) (holds known e.lit) is) stays all

-- a resolved entry: its reason, put in front of the hints, becomes unit or falsified once its other variables are marked
resolved_ready : (look : Name → Option (List Literal)) (trail older : List Entry) (e : Entry) (name : Name) (lits : List Literal) (t : Trace) → look name ≡ Some lits →
    IsImplied older e.lit lits → Stands trail e.lit → IsReady look trail t (e ∷ older) →
    (known : List Literal) → AreMarkedHeld (map (λ l. l.variable) lits ++ t.marked) older known → list_all (λ e. holds known e.lit) t.stays ≡ true → AreStanding trail known →
    (place : ℕ) → walk place known (Some lits ∷ map look t.hints) ≡ Follows
resolved_ready look trail older e name lits t is implied stands ready known held stays stand place =
    let marks = map (λ l. l.variable) lits ++ t.marked in
    let others : list_all (λ m. fails known m || same m e.lit) lits ≡ true =
    all_both (λ m. is_marked marks m.variable) (λ m. is_false older m || same m e.lit) (λ m. fails known m || same m e.lit)
    (λ m is_in either. elim (or_cases (is_false older m) (same m e.lit) either) [
      | inl untrue ↦ or_left (fails known m) (same m e.lit) (false_fails older marks known m held is_in untrue)
      | inr here ↦ or_right (fails known m) (same m e.lit) here
    ])
    lits (marked_with lits t.marked) implied.others in
    let before : AreMarkedHeld t.marked older known = λ v sign found is_in. held v sign found (still_marked (map (λ l. l.variable) lits) t.marked v is_in) in
    walk_at_reason trail known lits e.lit place (λ after. walk (place + 1) after (map look t.hints)) (status_of known lits) stand others (status_tells known lits)
    (λ own. ready known (held_with_newest e older t.marked known before own) stays stand (place + 1))
    (ready (e.lit ∷ known)
    (held_with_newest e older t.marked (e.lit ∷ known) (marked_held_with t.marked older known e.lit before) (or_left (same e.lit e.lit) (holds known e.lit) (same_itself e.lit)))
    (stays_held_with t.stays known e.lit stays) (standing_with trail known e.lit stand stands) (place + 1))

-- each entry that stays stands on the trail
abbrev AreStaysStanding : List Entry → List Entry → Type 0
AreStaysStanding trail stays = AllByRecursion (λ e. Stands trail e.lit) stays

-- what each step of the trace keeps
record IsSound (look : Name → Option (List Literal)) (trail : List Entry) (t : Trace) (rest : List Entry) : Type 0 where
  ready : IsReady look trail t rest
  standing : AreStaysStanding trail t.stays

one_more_standing : (trail stays : List Entry) (e : Entry) → AreStaysStanding trail stays → Stands trail e.lit → AreStaysStanding trail (stays ++ e ∷ [])
one_more_standing trail [] e all one = (one, tt)
one_more_standing trail (s ∷ ss) e all one = (all.0, one_more_standing trail ss e all.1 one)

stay_sound : (look : Name → Option (List Literal)) (trail older : List Entry) (e : Entry) (t : Trace) → Stands trail e.lit → IsSound look trail t (e ∷ older) →
    IsSound look trail (stay e t) older
stay_sound look trail older e t stands before = record {
  ready = λ known held stays stand place.
      let parts = and_parts (list_all (λ e. holds known e.lit) t.stays) (list_all (λ e. holds known e.lit) (e ∷ [])) (sym (list_all-append (λ e. holds known e.lit) t.stays (e ∷ [])) ∙ stays) in
      before.ready known (held_with_newest e older t.marked known held (and_parts (holds known e.lit) true parts.1).0) parts.0 stand place;
  standing = one_more_standing trail t.stays e before.standing stands;
}

resolve_by : (look : Name → Option (List Literal)) (trail older : List Entry) (e : Entry) (name : Name) (t : Trace) (o : Option (List Literal)) → look name ≡ o → IsImpliedBy older e.lit o →
    Stands trail e.lit → IsSound look trail t (e ∷ older) → (known : List Literal) → AreMarkedHeld (variables_of o ++ t.marked) older known →
    list_all (λ e. holds known e.lit) t.stays ≡ true → AreStanding trail known → (place : ℕ) → walk place known (o ∷ map look t.hints) ≡ Follows
resolve_by look trail older e name t None is implied stands before known held stays stand place = absurd implied
resolve_by look trail older e name t (Some lits) is implied stands before known held stays stand place =
    resolved_ready look trail older e name lits t is implied stands before.ready known held stays stand place

resolve_sound : (look : Name → Option (List Literal)) (trail older : List Entry) (e : Entry) (reason : Option Name) (t : Trace) → HasReason look older e.lit reason → Stands trail e.lit →
    IsSound look trail t (e ∷ older) → IsSound look trail (resolve look e reason t) older
resolve_sound look trail older e None t has stands before = stay_sound look trail older e t stands before
resolve_sound look trail older e (Some name) t has stands before = record {
  ready = resolve_by look trail older e name t (look name) refl has stands before;
  standing = before.standing;
}

step_sound : (look : Name → Option (List Literal)) (level : ℕ) (trail older : List Entry) (e : Entry) (t : Trace) → HasReason look older e.lit e.reason → Stands trail e.lit →
    IsSound look trail t (e ∷ older) → IsSound look trail (trace_step look level e older t) older
step_sound look level trail older e t has stands before =
    cond_both (is_marked t.marked e.lit.variable) (settle look (is_resolved look level t.marked e older) e (touch e t)) t (λ after. IsSound look trail after older)
    (λ marked. cond_both (is_resolved look level t.marked e older) (resolve look e e.reason (touch e t)) (stay e (touch e t)) (λ after. IsSound look trail after older)
    (λ resolved. resolve_sound look trail older e e.reason (touch e t) has stands touched)
    (λ stays. stay_sound look trail older e (touch e t) stands touched))
    (λ unmarked. record { ready = λ known held stays stand place. before.ready known (held_without_newest e older t.marked known held unmarked) stays stand place; standing = before.standing })
  where
    touched : IsSound look trail (touch e t) (e ∷ older)
    touched = record { ready = before.ready; standing = before.standing }

trace_sound : (look : Name → Option (List Literal)) (level : ℕ) (trail rest : List Entry) (t : Trace) → HasDistinctVariables rest → FitsClauses look rest → Extends rest trail →
    IsSound look trail t rest → IsSound look trail (trace look level rest t) []
trace_sound look level trail [] t distinct fits extends before = before
trace_sound look level trail (e ∷ older) t distinct fits extends before =
    trace_sound look level trail older (trace_step look level e older t) distinct.1 fits.1
    (λ v sign found. extends v sign (newest_extends e older distinct.0 v sign found))
    (step_sound look level trail older e t fits.0 (extends e.lit.variable e.lit.positive (newest_stands e older)) before)

-- a clause all of whose literals fail ends the walk
walk_at_falsified : (trail : List Entry) (known lits : List Literal) (place : ℕ) (later : List Literal → Judged) (status : ClauseStatus) → AreStanding trail known →
    list_all (fails known) lits ≡ true → Tells known lits status → walk_at place known status later ≡ Follows
walk_at_falsified trail known lits place later Satisfied stand all tells =
    let found = all_any (fails known) (holds known) lits all tells in absurd (not_both_held trail known found.0 stand found.2 found.1)
walk_at_falsified trail known lits place later Falsified stand all tells = refl
walk_at_falsified trail known lits place later (Implies l) stand all tells =
    absurd (true≢false (sym (all_at (fails known) lits l all tells.0.found.1) ∙ tells.0.found.0))
walk_at_falsified trail known lits place later Unresolved stand all tells =
    absurd (true≢false (sym (all_at (fails known) lits tells.0 all tells.1.found.1) ∙ tells.1.found.0))

conflict_ready : (trail : List Entry) (o : Option (List Literal)) → IsFalsifiedBy trail o → (known : List Literal) → AreMarkedHeld (variables_of o) trail known → AreStanding trail known →
    (place : ℕ) → walk place known (o ∷ []) ≡ Follows
conflict_ready trail None falsified known held stand place = absurd falsified
conflict_ready trail (Some lits) falsified known held stand place =
    let marks = map (λ l. l.variable) lits in
    let marked : list_all (λ m. is_marked marks m.variable) lits ≡ true = subst (λ ms. list_all (λ m. is_marked ms m.variable) lits ≡ true) (append-nil marks) (marked_with lits []) in
    let all : list_all (fails known) lits ≡ true =
    all_both (λ m. is_marked marks m.variable) (is_false trail) (fails known) (λ m is_in untrue. false_fails trail marks known m held is_in untrue) lits marked falsified in
    walk_at_falsified trail known lits place (λ after. walk (place + 1) after []) (status_of known lits) stand all (status_tells known lits)

first_sound : (look : Name → Option (List Literal)) (trail : List Entry) (conflict : Name) → IsConflict look trail conflict → IsSound look trail (first_trace look conflict) trail
first_sound look trail conflict falsified = record {
  ready = λ known held stays stand place. conflict_ready trail (look conflict) falsified known held stand place;
  standing = tt;
}

-- the literals of the lemma, made false: those of the entries that stay
negated_lemma : (stays : List Entry) → map negation (map (λ e. negation e.lit) stays) ≡ map (λ e. e.lit) stays
negated_lemma [] = refl
negated_lemma (e ∷ es) = two_heads (negation-negation e.lit) (negated_lemma es)
  where
    two_heads : {a b : Literal} {xs ys : List Literal} → a ≡ b → xs ≡ ys → a ∷ xs ≡ b ∷ ys
    two_heads p q = cc

stays_held : (stays : List Entry) → list_all (λ e. holds (map (λ s. s.lit) stays) e.lit) stays ≡ true
stays_held [] = refl
stays_held (e ∷ es) =
    and_from (holds (map (λ s. s.lit) (e ∷ es)) e.lit) (list_all (λ x. holds (map (λ s. s.lit) (e ∷ es)) x.lit) es)
    (or_left (same e.lit e.lit) (holds (map (λ s. s.lit) es) e.lit) (same_itself e.lit))
    (stays_held_with es (map (λ s. s.lit) es) e.lit (stays_held es))

stays_standing : (trail stays : List Entry) → AreStaysStanding trail stays → AreStanding trail (map (λ s. s.lit) stays)
stays_standing trail [] all l held = cc
stays_standing trail (e ∷ es) all l held = elim (or_cases (same e.lit l) (holds (map (λ s. s.lit) es) l) held) [
  | inl here ↦ subst (λ m. Stands trail m) (same-true e.lit l here) all.0
  | inr later ↦ stays_standing trail es all.1 l later
]

-- at the end of the trace the lemma of the entries that stay follows from the hints
end_follows : (look : Name → Option (List Literal)) (level : ℕ) (trail : List Entry) (t : Trace) → IsSound look trail t [] →
    FollowsByHints look (lesson_from level t).lits (lesson_from level t).hints
end_follows look level trail t sound =
    by_tautology (is_tautology (map (λ e. negation e.lit) t.stays))
  where
    walks : walk 1 (map negation (map (λ e. negation e.lit) t.stays)) (map look t.hints) ≡ Follows
    walks =
        ap (λ known. walk 1 known (map look t.hints)) (negated_lemma t.stays)
        ∙ sound.ready (map (λ e. e.lit) t.stays) (λ v sign found is_in. cc) (stays_held t.stays) (stays_standing trail t.stays sound.standing) 1

    by_tautology : (b : Bool) → cond b Follows (walk 1 (map negation (map (λ e. negation e.lit) t.stays)) (map look t.hints)) ≡ Follows
    by_tautology true = refl
    by_tautology false = walks

-- the lemma of a conflict follows from its hints, where the trail fits the clauses
pub lesson_follows : (look : Name → Option (List Literal)) (trail : List Entry) (conflict : Name) → HasDistinctVariables trail → FitsClauses look trail → IsConflict look trail conflict →
    FollowsByHints look (lesson_of look trail conflict).lits (lesson_of look trail conflict).hints
lesson_follows look trail conflict distinct fits falsified =
    end_follows look (level_now trail) trail (trace look (level_now trail) trail (first_trace look conflict))
    (trace_sound look (level_now trail) trail trail (first_trace look conflict) distinct fits (λ v sign found. found) (first_sound look trail conflict falsified))
