-- The lesson of a conflict above level 0 is asserting.
use Rattle.std.proofs.Common.{◌≡◌, ℕ, ◌==◌, ◌≤◌, ◌<◌, Bool, true, false, cond, not, ◌&&◌, ◌||◌, List, [], ◌∷◌, refl, ap, sym, ◌∙◌, subst, arith, ◌⊎◌, inl, inr}
use Rattle.std.specs.Prelude.{Option, Some, None, is_none, map, filter, fold, max, find}
use Rattle.std.specs.Bool.{beq}
use Rattle.std.specs.List.{list_any, list_all, AllByRecursion}
use Rattle.std.proofs.lemmas.Bool.{and_from, and_left, and_right, or_cases, or_from, or_left, or_right, eqb-true, eq-eqb, ne_eqb, cond-true, cond-false}
use Rattle.std.proofs.lemmas.Option.{same_Some}
use Rattle.lit_base.specs.Literal.{Literal, negation, same}
use Rattle.lit_base.specs.Trail.{sign_of, value_by, is_false_value, is_false, is_free, level_of, level_now}
use Rattle.lit_base.specs.Backjump.{cut}
use Rattle.lit_base.specs.Rounds.{only_free, is_falsified, unit_of}
use Rattle.lit_base.specs.Fits.{HasDistinctVariables, IsLeveled, IsFitting}
use Rattle.lit_base.specs.Quiet.{IsQuiet, IsOneOf, IsOfLevelUpTo, IsAsserting}
use Rattle.lit_base.specs.Analysis.{back_of, trace, first_trace, lesson_of}
use Rattle.lit_base.specs.declared.trail.Entry.{Entry}
use Rattle.lit_base.specs.declared.name.Name.{Name}
use Rattle.lit_base.specs.declared.lesson.Lesson.{Lesson}
use Rattle.lit_base.proofs.Known.{same_itself, negation-negation}
use Rattle.lit_base.proofs.Standing.{Stands, false_from_stands}
use Rattle.lit_base.proofs.Cuts.{sign_of-cut-below, sign_of-cut-above}
use Rattle.lit_base.proofs.OneOfLevel.{IsOn, IsOther, trace_has_one}

-- the highest level of these entries, from a number on
abbrev highest : ℕ → List Entry → ℕ
highest least entries = fold max least (map (λ e. e.level) entries)

highest_at_least : (least : ℕ) (entries : List Entry) → least ≤ highest least entries
highest_at_least least [] = omega arith
highest_at_least least (e ∷ es) =
    let more : max least e.level ≤ highest (max least e.level) es = highest_at_least (max least e.level) es in omega arith

highest_bounds : (least : ℕ) (entries : List Entry) → AllByRecursion (λ e. e.level ≤ highest least entries) entries
highest_bounds least [] = tt
highest_bounds least (e ∷ es) =
    (let more : max least e.level ≤ highest (max least e.level) es = highest_at_least (max least e.level) es in omega arith, highest_bounds (max least e.level) es)

highest_below : (trail : List Entry) (level least : ℕ) (entries : List Entry) → least < level → AllByRecursion (IsOther trail level) entries → highest least entries < level
highest_below trail level least [] low all = low
highest_below trail level least (e ∷ es) low all =
    highest_below trail level (max least e.level) es (let lower : e.level < level = all.0.lower in omega arith) all.1

-- the highest level is that of one of the entries, or the number that it began with
highest_reached : (least : ℕ) (entries : List Entry) → (highest least entries ≡ least) ⊎ (list_any (λ e. e.level == highest least entries) entries ≡ true)
highest_reached least [] = inl refl
highest_reached least (e ∷ es) = elim (highest_reached (max least e.level) es) [
  | inl is ↦ by_order (least_or_this is)
  | inr later ↦ inr (or_right (e.level == highest (max least e.level) es) (list_any (λ s. s.level == highest (max least e.level) es) es) later)
]
  where
    least_or_this : highest (max least e.level) es ≡ max least e.level → (highest (max least e.level) es ≡ least) ⊎ (e.level ≡ highest (max least e.level) es)
    least_or_this is = grind arith

    by_order : (highest (max least e.level) es ≡ least) ⊎ (e.level ≡ highest (max least e.level) es) →
        (highest least (e ∷ es) ≡ least) ⊎ (list_any (λ s. s.level == highest least (e ∷ es)) (e ∷ es) ≡ true)
    by_order (inl same) = inl same
    by_order (inr here) =
        inr (or_left (e.level == highest (max least e.level) es) (list_any (λ s. s.level == highest (max least e.level) es) es) (eq-eqb e.level (highest (max least e.level) es) here))

-- entries of lower levels pass the filter
others_stay : (trail : List Entry) (level : ℕ) (others : List Entry) → AllByRecursion (IsOther trail level) others → filter (λ e. not (e.level == level)) others ≡ others
others_stay trail level [] all = refl
others_stay trail level (e ∷ es) all =
    cond-true (not (e.level == level)) (e ∷ filter (λ s. not (s.level == level)) es) (filter (λ s. not (s.level == level)) es) (ap not (ne_eqb e.level level differs))
    ∙ ap (λ rest. e ∷ rest) (others_stay trail level es all.1)
  where
    differs : e.level ≡ level → ⊥
    differs is = let lower : e.level < level = all.0.lower in omega arith

-- the level to jump back to is the highest one of the others
back_is_highest : (trail : List Entry) (level : ℕ) (one : Entry) (others : List Entry) → one.level ≡ level → AllByRecursion (IsOther trail level) others →
    back_of level (one ∷ others) ≡ highest 0 others
back_is_highest trail level one others is all =
    ap (highest 0)
    (cond-false (not (one.level == level)) (one ∷ filter (λ e. not (e.level == level)) others) (filter (λ e. not (e.level == level)) others) (ap not (eq-eqb one.level level is))
    ∙ others_stay trail level others all)

-- a number that bounds the levels of the entries, is lower than the current level, and is 0 or the level of one of the entries
record IsBack (trail : List Entry) (back : ℕ) (others : List Entry) : Type 0 where
  bounds : AllByRecursion (λ e. e.level ≤ back) others
  lower : back < level_now trail
  reached : (back ≡ 0) ⊎ (list_any (λ e. e.level == back) others ≡ true)

back_of_entries : (trail stays : List Entry) (one : Entry) (others : List Entry) → 0 < level_now trail → stays ≡ one ∷ others → one.level ≡ level_now trail →
    AllByRecursion (IsOther trail (level_now trail)) others → IsBack trail (back_of (level_now trail) stays) others
back_of_entries trail stays one others above are is all =
    subst (λ back. IsBack trail back others) (sym (ap (back_of (level_now trail)) are ∙ back_is_highest trail (level_now trail) one others is all))
    (record { bounds = highest_bounds 0 others; lower = highest_below trail (level_now trail) 0 others above all; reached = highest_reached 0 others })

-- what holds of the negations of entries
each_negation : (P Q : Entry → Type 0) (R : Literal → Type 0) → ((e : Entry) → P e → Q e → R (negation e.lit)) → (es : List Entry) → AllByRecursion P es → AllByRecursion Q es →
    AllByRecursion R (map (λ e. negation e.lit) es)
each_negation P Q R step [] all both = tt
each_negation P Q R step (e ∷ es) all both = (step e all.0 both.0, each_negation P Q R step es all.1 both.1)

all_from_each : (p : Literal → Bool) (lits : List Literal) → AllByRecursion (λ m. p m ≡ true) lits → list_all p lits ≡ true
all_from_each p [] each = refl
all_from_each p (l ∷ ls) each = and_from (p l) (list_all p ls) each.0 (all_from_each p ls each.1)

-- where some entry passes a test, and the negation of none that passes it passes another, not all negations do
not_all_negations : (P : Entry → Type 0) (q : Entry → Bool) (p : Literal → Bool) → ((e : Entry) → P e → q e ≡ true → p (negation e.lit) ≡ false) → (es : List Entry) → AllByRecursion P es →
    list_any q es ≡ true → list_all p (map (λ e. negation e.lit) es) ≡ false
not_all_negations P q p step [] all some = cc
not_all_negations P q p step (e ∷ es) all some = elim (or_cases (q e) (list_any q es) some) [
  | inl this ↦ and_left (p (negation e.lit)) (list_all p (map (λ s. negation s.lit) es)) (step e all.0 this)
  | inr later ↦ and_right (p (negation e.lit)) (list_all p (map (λ s. negation s.lit) es)) (not_all_negations P q p step es all.1 later)
]

-- a free literal isn't false
free_not_false : (trail : List Entry) (l : Literal) → sign_of trail l.variable ≡ None → is_false trail l ≡ false
free_not_false trail l free = ap (λ o. is_false_value (value_by o l.positive)) free

both_before : (a b c : Bool) → a ≡ true → b ≡ true → (a && (b && c)) ≡ c
both_before true true c first second = refl
both_before true false c first second = cc
both_before false b c first second = cc

-- a clause whose first literal is free is unit exactly where all its others are false or the same
unit_by_first : (trail : List Entry) (first : Literal) (others : List Literal) (b : Bool) → sign_of trail first.variable ≡ None → list_all (λ m. is_false trail m || same m first) others ≡ b →
    unit_of trail (first ∷ others) ≡ cond b (Some first) None
unit_by_first trail first others b free is =
    ap (only_free trail (first ∷ others))
    (cond-true (not (is_false trail first)) (Some first) (find (λ l. not (is_false trail l)) others) (ap not (free_not_false trail first free)))
    ∙ ap (λ t. cond t (Some first) None)
    (both_before (is_free trail first.variable) (is_false trail first || same first first) (list_all (λ m. is_false trail m || same m first) others) (ap is_none free)
    (or_right (is_false trail first) (same first first) (same_itself first))
    ∙ is)

-- the negation of an entry up to the level is false on the trail that is cut to the level
false_after_cut : (level : ℕ) (trail : List Entry) (e : Entry) → HasDistinctVariables trail → IsLeveled trail → IsOn trail e → e.level ≤ level → is_false (cut level trail) (negation e.lit) ≡ true
false_after_cut level trail e distinct leveled on low =
    false_from_stands (cut level trail) (negation e.lit)
    (subst (λ l. Stands (cut level trail) l) (sym (negation-negation e.lit)) (sign_of-cut-below level e.level e.lit.variable trail distinct leveled on.level low ∙ on.stands))

-- entries of different levels are of different variables
different_levels : (trail : List Entry) (e one : Entry) → IsOn trail e → IsOn trail one → e.level < one.level → same (negation e.lit) (negation one.lit) ≡ false
different_levels trail e one on one_on lower =
    and_left (e.lit.variable == one.lit.variable) (beq (not e.lit.positive) (not one.lit.positive)) (ne_eqb e.lit.variable one.lit.variable differ)
  where
    differ : e.lit.variable ≡ one.lit.variable → ⊥
    differ is =
        let same : e.level ≡ one.level = same_Some e.level one.level (sym on.level ∙ (ap (λ v. level_of trail v) is ∙ one_on.level)) in
        omega arith

-- on the trail cut to the level to jump back to, the lemma is unit
unit_after_jump : (trail : List Entry) (back : ℕ) (one : Entry) (others : List Entry) → HasDistinctVariables trail → IsLeveled trail → IsOn trail one → one.level ≡ level_now trail →
    AllByRecursion (IsOther trail (level_now trail)) others → IsBack trail back others →
    unit_of (cut back trail) (map (λ e. negation e.lit) (one ∷ others)) ≡ Some (negation one.lit)
unit_after_jump trail back one others distinct leveled on is all jump =
    unit_by_first (cut back trail) (negation one.lit) (map (λ e. negation e.lit) others) true
    (sign_of-cut-above back one.level one.lit.variable trail distinct leveled on.level (let lower : back < level_now trail = jump.lower in omega arith))
    (all_from_each (λ m. is_false (cut back trail) m || same m (negation one.lit)) (map (λ e. negation e.lit) others)
    (each_negation (IsOther trail (level_now trail)) (λ e. e.level ≤ back) (λ m. (is_false (cut back trail) m || same m (negation one.lit)) ≡ true)
    (λ e other low. or_left (is_false (cut back trail) (negation e.lit)) (same (negation e.lit) (negation one.lit)) (false_after_cut back trail e distinct leveled other.on low))
    others all jump.bounds))

-- on the trail cut to a lower level, it is neither falsified nor unit
quiet_before_back : (trail : List Entry) (back level : ℕ) (one : Entry) (others : List Entry) → HasDistinctVariables trail → IsLeveled trail → IsOn trail one → one.level ≡ level_now trail →
    AllByRecursion (IsOther trail (level_now trail)) others → IsBack trail back others → level < back → IsQuiet (cut level trail) (map (λ e. negation e.lit) (one ∷ others))
quiet_before_back trail back level one others distinct leveled on is all jump below = record {
  not_falsified = and_left (is_false (cut level trail) (negation one.lit)) (is_falsified (cut level trail) (map (λ e. negation e.lit) others))
      (free_not_false (cut level trail) (negation one.lit) free);
  not_unit = unit_by_first (cut level trail) (negation one.lit) (map (λ e. negation e.lit) others) false free (elim jump.reached [
    | inl none ↦ absurd (omega arith)
    | inr some ↦ not_all_negations (IsOther trail (level_now trail)) (λ e. e.level == back) (λ m. is_false (cut level trail) m || same m (negation one.lit)) open_still others all some
  ]);
}
  where
    free : sign_of (cut level trail) one.lit.variable ≡ None
    free = sign_of-cut-above level one.level one.lit.variable trail distinct leveled on.level (let lower : back < level_now trail = jump.lower in omega arith)

    open_still : (e : Entry) → IsOther trail (level_now trail) e → (e.level == back) ≡ true → (is_false (cut level trail) (negation e.lit) || same (negation e.lit) (negation one.lit)) ≡ false
    open_still e other at_back =
        let high : e.level ≡ back = eqb-true e.level back at_back in
        let lower : e.level < level_now trail = other.lower in
        or_from (is_false (cut level trail) (negation e.lit)) (same (negation e.lit) (negation one.lit))
        (free_not_false (cut level trail) (negation e.lit) (sign_of-cut-above level e.level e.lit.variable trail distinct leveled other.on.level (omega arith)))
        (different_levels trail e one other.on on (omega arith))

-- a lesson whose lemma is the negations of such entries
asserting_entries : (look : Name → Option (List Literal)) (trail : List Entry) (lesson : Lesson) (one : Entry) (others : List Entry) → IsFitting look trail →
    lesson.lits ≡ map (λ e. negation e.lit) (one ∷ others) → IsOn trail one → one.level ≡ level_now trail → AllByRecursion (IsOther trail (level_now trail)) others →
    IsBack trail lesson.back others → IsAsserting trail lesson
asserting_entries look trail lesson one others fitting are on is all jump = record {
  first = negation one.lit;
  others = map (λ e. negation e.lit) others;
  lits = are;
  first_level = on.level ∙ ap (λ level. Some level) is;
  others_levels = each_negation (IsOther trail (level_now trail)) (λ e. e.level ≤ lesson.back) (IsOfLevelUpTo trail lesson.back)
      (λ e other low. record { level = e.level; stands = other.on.level; above_root = other.above_root; at_most = low }) others all jump.bounds;
  back_lower = jump.lower;
  unit_after = ap (unit_of (cut lesson.back trail)) are ∙ unit_after_jump trail lesson.back one others fitting.distinct fitting.leveled on is all jump;
  quiet_before = λ level below.
      subst (IsQuiet (cut level trail)) (sym are) (quiet_before_back trail lesson.back level one others fitting.distinct fitting.leveled on is all jump below);
}

-- the lemma of a conflict has one literal of the current level, and is unit after the jump back
pub lesson_asserting : (look : Name → Option (List Literal)) (trail : List Entry) (conflict : Name) (lits : List Literal) (l : Literal) → IsFitting look trail →
    look conflict ≡ Some lits → 0 < level_now trail → IsOneOf lits l → level_of trail l.variable ≡ Some (level_now trail) →
    IsAsserting trail (lesson_of look trail conflict)
lesson_asserting look trail conflict lits l fitting is above there level =
    let stays = (trace look (level_now trail) trail (first_trace look conflict)).stays in
    let has = trace_has_one look trail conflict lits l fitting.distinct fitting.leveled above is there level in
    asserting_entries look trail (lesson_of look trail conflict) has.one has.others fitting (ap (map (λ e. negation e.lit)) has.entries) has.on has.one_level has.each
    (back_of_entries trail stays has.one has.others above has.entries has.one_level has.each)
