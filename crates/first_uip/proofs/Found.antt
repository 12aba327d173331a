-- The search through the marked variables, against the definition's marks.
use Rattle.std.proofs.Common.{◌≡◌, ℕ, ◌==◌, ◌+◌, ◌≤◌, ◌<◌, Bool, true, false, ◌||◌, List, [], ◌∷◌, length, get_or, take, count_by, sum_by, refl, ap, ◌∙◌, sym, arith, inl, inr}
use Rattle.std.specs.Prelude.{Option, nat_lt}
use Rattle.std.specs.List.{list_any}
use Rattle.std.proofs.lemmas.Bool.{or_cases, or_left, or_right, eqb-true, cases_Bool}
use Rattle.std.proofs.lemmas.List.{take-append-le, take_all}
use Rattle.std.proofs.lemmas.List.Folds.{list_any_more}
use Rattle.std.proofs.lemmas.List.Sums.{sum_by_more}
use Rattle.lit_base.specs.Literal.{Literal}
use Rattle.lit_base.specs.declared.trail.Entry.{Entry}
use Rattle.lit_base.specs.declared.name.Name.{Name}
use Rattle.lit_base.specs.Fits.{IsFitting}
use Rattle.lit_base.specs.Analysis.{Trace, is_marked, is_other_left, trace}
use Rattle.trail_book.specs.TrailState.{place_of}
use Rattle.first_uip.specs.Marks.{is_flagged, AreFlagsOf, AreListed, GoesOn, IsCounted, one_if}
use Rattle.first_uip.specs.Places.{entry_of}
use Rattle.first_uip.specs.Reasons.{root_variables}
use Rattle.first_uip.specs.Walked.{AreFound}
use Rattle.first_uip.specs.declared.marks.Marks.{Marks}
use Rattle.first_uip.specs.declared.walk.Walk.{Walk}
use Rattle.first_uip.proofs.Counted.{left_by_count}
use Rattle.first_uip.proofs.Marking.{trace_closed, trace_least}
use Rattle.first_uip.proofs.Listed.{listed_flag}

-- a list that goes on has the same beginning
same_front : (marked after : List ℕ) (n : ℕ) → n ≤ length marked → GoesOn marked after → take n after ≡ take n marked
same_front marked after n within goes = ap (take n) goes.is ∙ take-append-le n marked goes.more within

-- whether the reason of one of these variables, where it is of level 0, has this one
abbrev pub is_reached : (Name → Option (List Literal)) → List Entry → List ℕ → ℕ → Bool
is_reached look rest variables v = list_any (λ m. is_marked (root_variables look (entry_of rest m)) v) variables

regroup : (a b c : Bool) → (a || (b || c)) ≡ ((b || a) || c)
regroup true true c = refl
regroup true false c = refl
regroup false true c = refl
regroup false false c = refl

-- the flags once one variable more was met
pub reached_more : (look : Name → Option (List Literal)) (rest : List Entry) (marked after : List ℕ) (index var : ℕ) (start flags now : List Bool) → index < length marked → var ≡ get_or marked index var →
    GoesOn marked after → ((v : ℕ) → is_flagged now v ≡ (is_marked (root_variables look (entry_of rest var)) v || is_flagged flags v)) →
    ((v : ℕ) → is_flagged flags v ≡ (is_reached look rest (take index marked) v || is_flagged start v)) →
    (v : ℕ) → is_flagged now v ≡ (is_reached look rest (take (index + 1) after) v || is_flagged start v)
reached_more look rest marked after index var start flags now within is goes one are v =
    let has = λ (m : ℕ). is_marked (root_variables look (entry_of rest m)) v in
    let more : is_reached look rest (take (index + 1) after) v ≡ (is_reached look rest (take index marked) v || has var) =
    ap (λ ms. is_reached look rest ms v) (same_front marked after (index + 1) (omega arith) goes)
    ∙ (list_any_more has marked index var within ∙ ap (λ m. is_reached look rest (take index marked) v || has m) (sym is)) in
    one v
    ∙ (ap (λ b. has var || b) (are v)
    ∙ (regroup (has var) (is_reached look rest (take index marked) v) (is_flagged start v) ∙ ap (λ b. b || is_flagged start v) (sym more)))

-- the counts of places once one variable more was met
pub counts_more : (f : ℕ → ℕ) (marked after : List ℕ) (index var before now : ℕ) → index < length marked → var ≡ get_or marked index var → GoesOn marked after → now ≡ before + f var →
    before ≡ sum_by f (take index marked) → now ≡ sum_by f (take (index + 1) after)
counts_more f marked after index var before now within is goes one are =
    let front = ap (sum_by f) (same_front marked after (index + 1) (omega arith) goes) in
    let here = ap f is in
    omega (arith, front, here, sum_by_more f marked index var within)

-- what is flagged is marked by the definition's walk in the end
pub sound_more : (look : Name → Option (List Literal)) (level : ℕ) (rest : List Entry) (marked : List ℕ) (index var : ℕ) (flags now : List Bool) (t : Trace) → IsFitting look rest → index < length marked →
    var ≡ get_or marked index var → AreFlagsOf marked flags → ((v : ℕ) → is_flagged now v ≡ (is_marked (root_variables look (entry_of rest var)) v || is_flagged flags v)) →
    ((v : ℕ) → is_flagged flags v ≡ true → is_marked (trace look level rest t).marked v ≡ true) → (v : ℕ) → is_flagged now v ≡ true → is_marked (trace look level rest t).marked v ≡ true
sound_more look level rest marked index var flags now t fitting within is listed one sound v set_now =
    elim (or_cases (is_marked (root_variables look (entry_of rest var)) v) (is_flagged flags v) (sym (one v) ∙ set_now)) [
      | inl fresh ↦ trace_closed look level rest t fitting var v (sound var (ap (is_flagged flags) is ∙ listed_flag marked flags index var listed within)) fresh
      | inr was ↦ sound v was
    ]

any_marked : (p : ℕ → Bool) (marked : List ℕ) (v : ℕ) → is_marked marked v ≡ true → p v ≡ true → list_any p marked ≡ true
any_marked p [] v there is = cc
any_marked p (m ∷ marked) v there is = elim (or_cases (m == v) (is_marked marked v) there) [
  | inl here ↦ or_left (p m) (list_any p marked) (ap p (eqb-true m v here) ∙ is)
  | inr later ↦ or_right (p m) (list_any p marked) (any_marked p marked v later is)
]

same_answers : (a b : Bool) → (a ≡ true → b ≡ true) → (b ≡ true → a ≡ true) → a ≡ b
same_answers true b right left = sym (right refl)
same_answers false b right left = elim (cases_Bool b) [ inl is ↦ left is ∙ sym is | inr isnt ↦ sym isnt ]

-- where no entry of the level is counted, none is left
pub none_is_left : (level : ℕ) (rest : List Entry) (m : Marks) (t : Trace) → IsCounted level rest m → m.left ≡ 0 → AreFlagsOf t.marked m.flags.items → is_other_left level t.marked rest ≡ false
none_is_left level rest m t counted none are = sym (left_by_count level m.flags.items t.marked rest are) ∙ ap (λ n. nat_lt 0 n) (sym counted.of_level ∙ none)

-- once all listed variables were met, the flags are the definition's marks
pub flags_found : (look : Name → Option (List Literal)) (level : ℕ) (rest : List Entry) (index : ℕ) (start now : Marks) (t : Trace) → IsFitting look rest → IsCounted level rest start → start.left ≡ 0 →
    length now.marked.items ≤ index → AreFlagsOf t.marked start.flags.items → AreFlagsOf now.marked.items now.flags.items →
    ((v : ℕ) → is_flagged now.flags.items v ≡ (is_reached look rest (take index now.marked.items) v || is_flagged start.flags.items v)) →
    ((v : ℕ) → is_flagged now.flags.items v ≡ true → is_marked (trace look level rest t).marked v ≡ true) → AreFlagsOf (trace look level rest t).marked now.flags.items
flags_found look level rest index start now t fitting counted none all began listed are sound v =
    same_answers (is_flagged now.flags.items v) (is_marked (trace look level rest t).marked v) (sound v)
    (trace_least look level rest t (is_flagged now.flags.items) fitting (none_is_left level rest start t counted none began)
    (λ u met. are u ∙ or_right (is_reached look rest (take index now.marked.items) u) (is_flagged start.flags.items u) (began u ∙ met))
    (λ u w set_there there. are w
    ∙ or_left (is_reached look rest (take index now.marked.items) w) (is_flagged start.flags.items w)
    (ap (λ ms. is_reached look rest ms w) (take_all index now.marked.items all)
    ∙ any_marked (λ m. is_marked (root_variables look (entry_of rest m)) w) now.marked.items u (sym (listed u) ∙ set_there) there)) v)

-- and the places are theirs
pub places_found : (rest : List Entry) (index : ℕ) (walk : Walk) → AreListed walk.marks → length walk.marks.marked.items ≤ index →
    ((p : ℕ) → count_by (λ at. at == p) walk.places.items ≡ sum_by (λ v. one_if (λ at. at == p) (place_of rest v)) (take index walk.marks.marked.items)) → AreFound rest walk
places_found rest index walk listed all counts = record {
  listed = listed;
  places = λ p. counts p ∙ ap (sum_by (λ v. one_if (λ at. at == p) (place_of rest v))) (take_all index walk.marks.marked.items all);
}
