-- The entries of a trail before a place, and what is found of a variable among them.
use Rattle.std.proofs.Common.{◌≡◌, ℕ, suc, ◌==◌, ◌+◌, ◌-◌, ◌≤◌, ◌<◌, Bool, true, false, cond, List, [], ◌∷◌, length, drop, get_or, reverse, refl, ap, ◌∙◌, sym, subst, inl, inr, arith, ◌⊎◌, zero}
use Rattle.std.specs.Prelude.{Option, Some, None, is_none, nat_lt, slice_get}
use Rattle.std.specs.List.{All}
use Rattle.std.proofs.lemmas.Bool.{eqb-true, cases_lt, cond-true, cond-false, lt-ltb, le-ltb}
use Rattle.std.proofs.lemmas.List.{drop_more, get_or-reverse, length-reverse, length-drop}
use Rattle.std.proofs.lemmas.Option.{slice_get_within, get_or_from_slice_get}
use Rattle.lit_base.specs.declared.trail.Entry.{Entry}
use Rattle.lit_base.specs.Trail.{sign_of, level_of, is_free}
use Rattle.lit_base.specs.Fits.{HasDistinctVariables}
use Rattle.trail_book.specs.TrailState.{place_of}
use Rattle.first_uip.specs.Places.{before, entry_of}

-- the entry at a place, among those that stand newest first
entry_at : (trail : List Entry) (place : ℕ) (e : Entry) → slice_get (reverse trail) place ≡ Some e → (place < length trail) × (get_or trail (length trail - 1 - place) e ≡ e)
entry_at trail place e is =
    let turned : place < length (reverse trail) = slice_get_within (reverse trail) place e is in
    let below : place < length trail = omega (arith, length-reverse trail) in
    (below, sym (get_or-reverse trail place e below) ∙ get_or_from_slice_get (reverse trail) place e e is)

-- what holds of each entry holds of the one at a place
pub held_at : (P : Entry → Type 0) (trail : List Entry) (place : ℕ) (e : Entry) → All P trail → slice_get (reverse trail) place ≡ Some e → P e
held_at P trail place e all is = let at = entry_at trail place e is in subst P at.1 (all (length trail - 1 - place) e (let below = at.0 in omega arith))

-- the entry at a place is the newest of those before the next place
pub before_next : (trail : List Entry) (place : ℕ) (e : Entry) → slice_get (reverse trail) place ≡ Some e → before (place + 1) trail ≡ e ∷ before place trail
before_next trail place e is =
    let at = entry_at trail place e is in
    let below : place < length trail = at.0 in
    let index = length trail - (place + 1) in
    let first : index ≡ length trail - 1 - place = omega arith in
    let next : index + 1 ≡ length trail - place = omega arith in
    drop_more trail index e (omega arith) ∙ (ap (λ x. x ∷ drop (index + 1) trail) (ap (λ i. get_or trail i e) first ∙ at.1) ∙ ap (λ i. e ∷ drop i trail) next)

-- before a place past the newest entry stand all
pub before_all : (trail : List Entry) (place : ℕ) → length trail ≤ place → before place trail ≡ trail
before_all trail place past = let none : length trail - place ≡ 0 = omega arith in ap (λ i. drop i trail) none

-- before a place that is no higher stand older entries
before_older : (e : Entry) (older : List Entry) (place : ℕ) → place ≤ length older → before place (e ∷ older) ≡ before place older
before_older e older place low =
    let one_more : suc (length older) - place ≡ suc (length older - place) = omega arith in
    ap (λ i. drop i (e ∷ older)) one_more

-- there are at most as many entries before a place as on the trail
pub length-before : (trail : List Entry) (place : ℕ) → length (before place trail) ≤ length trail
length-before trail place = omega (arith, length-drop (length trail - place) trail)

-- nor more than the place
pub before_long : (trail : List Entry) (place : ℕ) → length (before place trail) ≤ place
before_long trail place = omega (arith, length-drop (length trail - place) trail)

-- entries that are left are over distinct variables too
distinct-drop : (n : ℕ) (trail : List Entry) → HasDistinctVariables trail → HasDistinctVariables (drop n trail)
distinct-drop zero trail distinct = distinct
distinct-drop (suc n) [] distinct = tt
distinct-drop (suc n) (e ∷ older) distinct = distinct-drop n older distinct.1

pub before-distinct : (trail : List Entry) (place : ℕ) → HasDistinctVariables trail → HasDistinctVariables (before place trail)
before-distinct trail place distinct = distinct-drop (length trail - place) trail distinct

-- what a look-up of a variable gives, from its newest entry and those that are older
abbrev pub look_up : {X : Type 0} → (Entry → List Entry → X) → List Entry → ℕ → Option X
look_up give [] v = None
look_up give (e ∷ older) v = cond (e.lit.variable == v) (Some (give e older)) (look_up give older v)

-- the level, the place and the entry of a variable are look-ups
abbrev level_in : Entry → List Entry → ℕ
level_in e older = e.level

abbrev place_in : Entry → List Entry → ℕ
place_in e older = length older

abbrev entry_in : Entry → List Entry → Entry
entry_in e older = e

level_is : (trail : List Entry) (v : ℕ) → level_of trail v ≡ look_up level_in trail v
level_is [] v = refl
level_is (e ∷ older) v = ap (λ o. cond (e.lit.variable == v) (Some e.level) o) (level_is older v)

place_is : (trail : List Entry) (v : ℕ) → place_of trail v ≡ look_up place_in trail v
place_is [] v = refl
place_is (e ∷ older) v = ap (λ o. cond (e.lit.variable == v) (Some (length older)) o) (place_is older v)

entry_is : (trail : List Entry) (v : ℕ) → entry_of trail v ≡ look_up entry_in trail v
entry_is [] v = refl
entry_is (e ∷ older) v = ap (λ o. cond (e.lit.variable == v) (Some e) o) (entry_is older v)

-- a free variable has none
pub no_sign : (e : Entry) (older : List Entry) (v : ℕ) → is_free (e ∷ older) v ≡ true → ((e.lit.variable == v) ≡ false) × (is_free older v ≡ true)
no_sign e older v free = by_test (e.lit.variable == v) free
  where
    by_test : (b : Bool) → is_none (cond b (Some e.lit.positive) (sign_of older v)) ≡ true → (b ≡ false) × (is_free older v ≡ true)
    by_test true free = cc
    by_test false free = (refl, free)

look_up-free : {X : Type 0} (give : Entry → List Entry → X) (v : ℕ) (trail : List Entry) → is_free trail v ≡ true → look_up give trail v ≡ None
look_up-free give v [] free = refl
look_up-free give v (e ∷ older) free =
    let parts = no_sign e older v free in
    cond-false (e.lit.variable == v) (Some (give e older)) (look_up give older v) parts.0 ∙ look_up-free give v older parts.1

pub level_of-free : (v : ℕ) (trail : List Entry) → is_free trail v ≡ true → level_of trail v ≡ None
level_of-free v trail free = level_is trail v ∙ look_up-free level_in v trail free

pub place_of-free : (v : ℕ) (trail : List Entry) → is_free trail v ≡ true → place_of trail v ≡ None
place_of-free v trail free = place_is trail v ∙ look_up-free place_in v trail free

pub entry_of-free : (v : ℕ) (trail : List Entry) → is_free trail v ≡ true → entry_of trail v ≡ None
entry_of-free v trail free = entry_is trail v ∙ look_up-free entry_in v trail free

-- what is found, where the place is one below
abbrev where_below : {X : Type 0} → ℕ → Option ℕ → Option X → Option X
where_below place None found = None
where_below place (Some at) found = cond (nat_lt at place) found None

-- a look-up before a place
look_up-before : {X : Type 0} (give : Entry → List Entry → X) (place v : ℕ) (trail : List Entry) → HasDistinctVariables trail →
    look_up give (before place trail) v ≡ where_below place (place_of trail v) (look_up give trail v)
look_up-before give place v [] distinct = ap (λ t. look_up give t v) (before_all [] place (omega arith))
look_up-before {X} give place v (e ∷ older) distinct =
    by_place (cases_lt (length older) place) (e.lit.variable == v) refl (look_up-before give place v older distinct.1)
  where
    by_place : (length older < place) ⊎ (place ≤ length older) → (b : Bool) → (e.lit.variable == v) ≡ b →
        look_up give (before place older) v ≡ where_below place (place_of older v) (look_up give older v) →
        look_up give (before place (e ∷ older)) v ≡ where_below place (cond b (Some (length older)) (place_of older v)) (cond b (Some (give e older)) (look_up give older v))
    by_place (inl past) true here rest =
        ap (λ t. look_up give t v) (before_all (e ∷ older) place (omega arith))
        ∙ (cond-true (e.lit.variable == v) (Some (give e older)) (look_up give older v) here ∙ sym (cond-true {A = Option X} (nat_lt (length older) place) (Some (give e older)) None (lt-ltb (length older) place past)))
    by_place (inl past) false other rest =
        ap (λ t. look_up give t v) (before_all (e ∷ older) place (omega arith))
        ∙ (cond-false (e.lit.variable == v) (Some (give e older)) (look_up give older v) other
        ∙ (sym (ap (λ t. look_up give t v) (before_all older place (omega arith))) ∙ rest))
    by_place (inr low) true here rest =
        let free : is_free older v ≡ true = subst (λ w. is_free older w ≡ true) (eqb-true e.lit.variable v here) distinct.0 in
        ap (λ t. look_up give t v) (before_older e older place low)
        ∙ (rest ∙ (ap (λ o. where_below place o (look_up give older v)) (place_of-free v older free)
        ∙ sym (cond-false {A = Option X} (nat_lt (length older) place) (Some (give e older)) None (le-ltb (length older) place low))))
    by_place (inr low) false other rest = ap (λ t. look_up give t v) (before_older e older place low) ∙ rest

-- of a variable whose place is below: as on the whole trail
found_below : {X : Type 0} (give : Entry → List Entry → X) (place at v : ℕ) (trail : List Entry) → HasDistinctVariables trail → Some at ≡ place_of trail v → at < place →
    look_up give trail v ≡ look_up give (before place trail) v
found_below {X} give place at v trail distinct is low =
    sym (cond-true {A = Option X} (nat_lt at place) (look_up give trail v) None (lt-ltb at place low))
    ∙ (ap (λ o. where_below place o (look_up give trail v)) is ∙ sym (look_up-before give place v trail distinct))

pub level_below : (place at v : ℕ) (trail : List Entry) → HasDistinctVariables trail → Some at ≡ place_of trail v → at < place → level_of trail v ≡ level_of (before place trail) v
level_below place at v trail distinct is low = level_is trail v ∙ (found_below level_in place at v trail distinct is low ∙ sym (level_is (before place trail) v))

pub place_below : (place at v : ℕ) (trail : List Entry) → HasDistinctVariables trail → Some at ≡ place_of trail v → at < place → Some at ≡ place_of (before place trail) v
place_below place at v trail distinct is low = is ∙ (place_is trail v ∙ (found_below place_in place at v trail distinct is low ∙ sym (place_is (before place trail) v)))

pub entry_below : (place at v : ℕ) (trail : List Entry) → HasDistinctVariables trail → Some at ≡ place_of trail v → at < place → entry_of trail v ≡ entry_of (before place trail) v
entry_below place at v trail distinct is low = entry_is trail v ∙ (found_below entry_in place at v trail distinct is low ∙ sym (entry_is (before place trail) v))

-- of one whose place isn't below: nothing
found_above : {X : Type 0} (give : Entry → List Entry → X) (place at v : ℕ) (trail : List Entry) → HasDistinctVariables trail → Some at ≡ place_of trail v → place ≤ at →
    None ≡ look_up give (before place trail) v
found_above {X} give place at v trail distinct is high =
    sym (cond-false {A = Option X} (nat_lt at place) (look_up give trail v) None (le-ltb at place high))
    ∙ (ap (λ o. where_below place o (look_up give trail v)) is ∙ sym (look_up-before give place v trail distinct))

pub level_above : (place at v : ℕ) (trail : List Entry) → HasDistinctVariables trail → Some at ≡ place_of trail v → place ≤ at → None ≡ level_of (before place trail) v
level_above place at v trail distinct is high = found_above level_in place at v trail distinct is high ∙ sym (level_is (before place trail) v)

pub place_above : (place at v : ℕ) (trail : List Entry) → HasDistinctVariables trail → Some at ≡ place_of trail v → place ≤ at → None ≡ place_of (before place trail) v
place_above place at v trail distinct is high = found_above place_in place at v trail distinct is high ∙ sym (place_is (before place trail) v)

pub entry_above : (place at v : ℕ) (trail : List Entry) → HasDistinctVariables trail → Some at ≡ place_of trail v → place ≤ at → None ≡ entry_of (before place trail) v
entry_above place at v trail distinct is high = found_above entry_in place at v trail distinct is high ∙ sym (entry_is (before place trail) v)

-- of one that has no place: nothing
found_nowhere : {X : Type 0} (give : Entry → List Entry → X) (place v : ℕ) (trail : List Entry) → HasDistinctVariables trail → None ≡ place_of trail v → None ≡ look_up give (before place trail) v
found_nowhere give place v trail distinct is = ap (λ o. where_below place o (look_up give trail v)) is ∙ sym (look_up-before give place v trail distinct)

pub level_nowhere : (place v : ℕ) (trail : List Entry) → HasDistinctVariables trail → None ≡ place_of trail v → None ≡ level_of (before place trail) v
level_nowhere place v trail distinct is = found_nowhere level_in place v trail distinct is ∙ sym (level_is (before place trail) v)

pub place_nowhere : (place v : ℕ) (trail : List Entry) → HasDistinctVariables trail → None ≡ place_of trail v → None ≡ place_of (before place trail) v
place_nowhere place v trail distinct is = found_nowhere place_in place v trail distinct is ∙ sym (place_is (before place trail) v)

pub entry_nowhere : (place v : ℕ) (trail : List Entry) → HasDistinctVariables trail → None ≡ place_of trail v → None ≡ entry_of (before place trail) v
entry_nowhere place v trail distinct is = found_nowhere entry_in place v trail distinct is ∙ sym (entry_is (before place trail) v)
