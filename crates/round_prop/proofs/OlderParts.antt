-- Older parts of a trail: what is true or false on them, and from which place on.
use Rattle.std.proofs.Common.{◌≡◌, ◌⊎◌, ℕ, ◌<◌, ◌≤◌, ◌==◌, Bool, true, false, cond, not, ◌||◌, List, [], ◌∷◌, ◌++◌, length, refl, inl, inr, ap, sym, ◌∙◌, subst, arith}
use Rattle.std.specs.Prelude.{Option, Some, None, is_none, nat_lt}
use Rattle.std.proofs.lemmas.Bool.{cases_lt, eqb-true}
use Rattle.std.proofs.lemmas.List.{append_assoc, length-append}
use Rattle.std.proofs.lemmas.Option.{same_Some}
use Rattle.lit_base.specs.Literal.{Literal, same}
use Rattle.lit_base.specs.Trail.{sign_of, value_by, is_true_value, is_false_value, is_true, is_false, is_free}
use Rattle.lit_base.specs.Fits.{HasDistinctVariables}
use Rattle.lit_base.specs.declared.trail.Entry.{Entry}
use Rattle.lit_base.proofs.Known.{all_when}
use Rattle.lit_base.proofs.Standing.{Stands, negation_stands, false_from_stands, Extends, newest_extends, false_extends, free_and_found}
use Rattle.trail_book.specs.TrailState.{place_of}
use Rattle.round_prop.specs.Linked.{IsPart, AreOthersFalse, or_zero, place_in}

-- what stands on an older part stands
extends_front : (newer part : List Entry) → HasDistinctVariables (newer ++ part) → Extends part (newer ++ part)
extends_front [] part distinct v sign found = found
extends_front (e ∷ newer) part distinct v sign found = newest_extends e (newer ++ part) distinct.0 v sign (extends_front newer part distinct.1 v sign found)

pub part_extends : (trail part : List Entry) → HasDistinctVariables trail → IsPart trail part → Extends part trail
part_extends trail part distinct is v sign found = ap (λ t. sign_of t v) is.front ∙ extends_front is.newer part (subst HasDistinctVariables is.front distinct) v sign found

distinct_front : (newer part : List Entry) → HasDistinctVariables (newer ++ part) → HasDistinctVariables part
distinct_front [] part distinct = distinct
distinct_front (e ∷ newer) part distinct = distinct_front newer part distinct.1

pub part_distinct : (trail part : List Entry) → HasDistinctVariables trail → IsPart trail part → HasDistinctVariables part
part_distinct trail part distinct is = distinct_front is.newer part (subst HasDistinctVariables is.front distinct)

pub part_itself : (trail : List Entry) → IsPart trail trail
part_itself trail = record { newer = []; front = refl }

pub part_of_part : (trail part older : List Entry) → IsPart trail part → IsPart part older → IsPart trail older
part_of_part trail part older one two = record { newer = one.newer ++ two.newer; front = one.front ∙ (ap (λ t. one.newer ++ t) two.front ∙ sym (append_assoc one.newer two.newer older)) }

-- of two older parts the one is a part of the other
nested_fronts : (front other part rest : List Entry) → front ++ part ≡ other ++ rest → IsPart part rest ⊎ IsPart rest part
nested_fronts [] other part rest is = inl (record { newer = other; front = is })
nested_fronts (e ∷ front) [] part rest is = inr (record { newer = e ∷ front; front = sym is })
nested_fronts (e ∷ front) (f ∷ other) part rest is = nested_fronts front other part rest (tails is)
  where
    tails : e ∷ (front ++ part) ≡ f ∷ (other ++ rest) → front ++ part ≡ other ++ rest
    tails same = cc

pub nested : (trail part rest : List Entry) → IsPart trail part → IsPart trail rest → IsPart part rest ⊎ IsPart rest part
nested trail part rest one two = nested_fronts one.newer two.newer part rest (sym one.front ∙ two.front)

-- truth
true_by_sign : (o : Option Bool) (p : Bool) → is_true_value (value_by o p) ≡ true → o ≡ Some p
true_by_sign None p is = cc
true_by_sign (Some true) true is = refl
true_by_sign (Some true) false is = cc
true_by_sign (Some false) true is = cc
true_by_sign (Some false) false is = refl

sign_by_true : (o : Option Bool) (p : Bool) → o ≡ Some p → is_true_value (value_by o p) ≡ true
sign_by_true o true is = ap (λ s. is_true_value (value_by s true)) is
sign_by_true o false is = ap (λ s. is_true_value (value_by s false)) is

pub true_stands : (trail : List Entry) (l : Literal) → is_true trail l ≡ true → Stands trail l
true_stands trail l is = true_by_sign (sign_of trail l.variable) l.positive is

pub true_from_stands : (trail : List Entry) (l : Literal) → Stands trail l → is_true trail l ≡ true
true_from_stands trail l stands = sign_by_true (sign_of trail l.variable) l.positive stands

pub true_extends : (older newer : List Entry) (l : Literal) → Extends older newer → is_true older l ≡ true → is_true newer l ≡ true
true_extends older newer l extends is = true_from_stands newer l (extends l.variable l.positive (true_stands older l is))

true_false_by : (o : Option Bool) (p : Bool) → is_true_value (value_by o p) ≡ true → is_false_value (value_by o p) ≡ false
true_false_by None p is = refl
true_false_by (Some true) true is = refl
true_false_by (Some true) false is = cc
true_false_by (Some false) true is = cc
true_false_by (Some false) false is = refl

pub true_not_false : (trail : List Entry) (l : Literal) → is_true trail l ≡ true → is_false trail l ≡ false
true_not_false trail l is = true_false_by (sign_of trail l.variable) l.positive is

free_false_by : (o : Option Bool) (p : Bool) → is_none o ≡ true → is_false_value (value_by o p) ≡ false
free_false_by None p is = refl
free_false_by (Some s) p is = cc

pub free_not_false : (trail : List Entry) (l : Literal) → is_free trail l.variable ≡ true → is_false trail l ≡ false
free_not_false trail l free = free_false_by (sign_of trail l.variable) l.positive free

true_free_by : (o : Option Bool) (p : Bool) → is_true_value (value_by o p) ≡ true → is_none o ≡ false
true_free_by None p is = cc
true_free_by (Some s) p is = refl

pub true_not_free : (trail : List Entry) (l : Literal) → is_true trail l ≡ true → is_free trail l.variable ≡ false
true_not_free trail l is = true_free_by (sign_of trail l.variable) l.positive is

taken_by : (o : Option Bool) (p : Bool) → is_none o ≡ false → (is_true_value (value_by o p) ≡ true) ⊎ (is_false_value (value_by o p) ≡ true)
taken_by None p is = cc
taken_by (Some true) true is = inl refl
taken_by (Some true) false is = inr refl
taken_by (Some false) true is = inr refl
taken_by (Some false) false is = inl refl

-- a literal whose variable has a value is true or false
pub taken_either : (trail : List Entry) (l : Literal) → is_free trail l.variable ≡ false → (is_true trail l ≡ true) ⊎ (is_false trail l ≡ true)
taken_either trail l taken = taken_by (sign_of trail l.variable) l.positive taken

-- what isn't false is false on no older part
pub not_false_before : (trail part : List Entry) (l : Literal) → Extends part trail → is_false trail l ≡ false → is_false part l ≡ false
not_false_before trail part l extends lives = by_test (is_false part l) refl
  where
    by_test : (b : Bool) → is_false part l ≡ b → b ≡ false
    by_test true is = sym (false_extends part trail l extends is) ∙ lives
    by_test false is = refl

-- what all literals but two are, they are later too
pub others_extends : (older newer : List Entry) (lits : List Literal) (a b : Literal) → Extends older newer → AreOthersFalse older lits a b → AreOthersFalse newer lits a b
others_extends older newer lits a b extends are =
    all_when (λ m. is_false older m || (same m a || same m b)) (λ m. is_false newer m || (same m a || same m b)) (λ m. step m (is_false older m) refl) lits are
  where
    step : (m : Literal) (f : Bool) → is_false older m ≡ f → (f || (same m a || same m b)) ≡ true → (is_false newer m || (same m a || same m b)) ≡ true
    step m true is held = ap (λ f. f || (same m a || same m b)) (false_extends older newer m extends is)
    step m false is held = either (is_false newer m) (same m a || same m b) held
      where
        either : (x y : Bool) → y ≡ true → (x || y) ≡ true
        either true y is = refl
        either false y is = is

-- the place of an entry, by the part of the trail on which its variable has a value
place_bound : (trail : List Entry) (v : ℕ) (k : ℕ) → place_of trail v ≡ Some k → k < length trail
place_bound [] v k is = cc
place_bound (e ∷ older) v k is = by_test (e.lit.variable == v) is (place_bound older v k)
  where
    by_test : (b : Bool) → cond b (Some (length older)) (place_of older v) ≡ Some k → (place_of older v ≡ Some k → k < length older) → k < length (e ∷ older)
    by_test true found rest = let same : length older ≡ k = same_Some (length older) k found in omega (arith, same)
    by_test false found rest = let less = rest found in omega (arith, less)

-- whether a sign is there is whether a place is
place_some : (trail : List Entry) (v : ℕ) (s : Bool) → sign_of trail v ≡ Some s → (k : ℕ) × (place_of trail v ≡ Some k)
place_some [] v s is = cc
place_some (e ∷ older) v s is = by_test (e.lit.variable == v) is (place_some older v s)
  where
    by_test : (b : Bool) → cond b (Some e.lit.positive) (sign_of older v) ≡ Some s → (sign_of older v ≡ Some s → (k : ℕ) × (place_of older v ≡ Some k)) → (k : ℕ) × (cond b (Some (length older)) (place_of older v) ≡ Some k)
    by_test true found rest = (length older, refl)
    by_test false found rest = rest found

place_none : (trail : List Entry) (v : ℕ) → sign_of trail v ≡ None → place_of trail v ≡ None
place_none [] v is = refl
place_none (e ∷ older) v is = by_test (e.lit.variable == v) is (place_none older v)
  where
    by_test : (b : Bool) → cond b (Some e.lit.positive) (sign_of older v) ≡ None → (sign_of older v ≡ None → place_of older v ≡ None) → cond b (Some (length older)) (place_of older v) ≡ None
    by_test true found rest = cc
    by_test false found rest = rest found

-- on a part the variable has its sign, where its place is inside
sign_inside : (newer part : List Entry) (v k : ℕ) (s : Bool) → HasDistinctVariables (newer ++ part) → sign_of (newer ++ part) v ≡ Some s → place_of (newer ++ part) v ≡ Some k → k < length part → sign_of part v ≡ Some s
sign_inside [] part v k s distinct sign place inside = sign
sign_inside (e ∷ newer) part v k s distinct sign place inside = by_test (e.lit.variable == v) sign place (λ sg pl. sign_inside newer part v k s distinct.1 sg pl inside)
  where
    by_test : (b : Bool) → cond b (Some e.lit.positive) (sign_of (newer ++ part) v) ≡ Some s → cond b (Some (length (newer ++ part))) (place_of (newer ++ part) v) ≡ Some k →
        (sign_of (newer ++ part) v ≡ Some s → place_of (newer ++ part) v ≡ Some k → sign_of part v ≡ Some s) → sign_of part v ≡ Some s
    by_test true sg pl rest = let same : length (newer ++ part) ≡ k = same_Some _ k pl in absurd (omega (arith, same, length-append newer part, inside))
    by_test false sg pl rest = rest sg pl

-- and only there
place_inside : (newer part : List Entry) (v k : ℕ) (s : Bool) → HasDistinctVariables (newer ++ part) → sign_of part v ≡ Some s → place_of (newer ++ part) v ≡ Some k → k < length part
place_inside [] part v k s distinct sign place = place_bound part v k place
place_inside (e ∷ newer) part v k s distinct sign place = by_test (e.lit.variable == v) refl place (place_inside newer part v k s distinct.1 sign)
  where
    by_test : (b : Bool) → (e.lit.variable == v) ≡ b → cond b (Some (length (newer ++ part))) (place_of (newer ++ part) v) ≡ Some k → (place_of (newer ++ part) v ≡ Some k → k < length part) → k < length part
    by_test true is pl rest =
        absurd (free_and_found (sign_of (newer ++ part) e.lit.variable) s distinct.0 (ap (λ w. sign_of (newer ++ part) w) (eqb-true e.lit.variable v is) ∙ extends_front newer part distinct.1 v s sign))
    by_test false is pl rest = rest pl

lt_true : (a b : ℕ) → a < b → nat_lt a b ≡ true
lt_true a b less = grind arith

lt_false : (a b : ℕ) → b ≤ a → nat_lt a b ≡ false
lt_false a b most = grind arith

-- a literal that is false is so on a part exactly where its place is inside
stands_at : (trail part : List Entry) (v : ℕ) (s : Bool) → HasDistinctVariables trail → IsPart trail part → sign_of trail v ≡ Some s →
    ((sign_of part v ≡ Some s) × (or_zero (place_of trail v) < length part)) ⊎ ((sign_of part v ≡ None) × (length part ≤ or_zero (place_of trail v)))
stands_at trail part v s distinct is sign = by_sign (sign_of part v) refl
  where
    place : (k : ℕ) × (place_of trail v ≡ Some k)
    place = place_some trail v s sign

    whole : HasDistinctVariables (is.newer ++ part)
    whole = subst HasDistinctVariables is.front distinct

    place_here : place_of (is.newer ++ part) v ≡ Some place.0
    place_here = sym (ap (λ t. place_of t v) is.front) ∙ place.1

    sign_here : sign_of (is.newer ++ part) v ≡ Some s
    sign_here = sym (ap (λ t. sign_of t v) is.front) ∙ sign

    number : or_zero (place_of trail v) ≡ place.0
    number = ap or_zero place.1

    by_sign : (o : Option Bool) → sign_of part v ≡ o → ((sign_of part v ≡ Some s) × (or_zero (place_of trail v) < length part)) ⊎ ((sign_of part v ≡ None) × (length part ≤ or_zero (place_of trail v)))
    by_sign None none = inr (none, by_cases (cases_lt place.0 (length part)))
      where
        by_cases : (place.0 < length part) ⊎ (length part ≤ place.0) → length part ≤ or_zero (place_of trail v)
        by_cases (inl less) = absurd (never (sym none ∙ sign_inside is.newer part v place.0 s whole sign_here place_here less))
          where
            never : {X : Type 0} {x : X} → None ≡ Some x → ⊥
            never same = cc
        by_cases (inr most) = omega (arith, most, number)
    by_sign (Some t) found =
        let same : t ≡ s = same_Some t s (sym (part_extends trail part distinct is v t found) ∙ sign) in
        let less = place_inside is.newer part v place.0 t whole found place_here in
        inl ((found ∙ ap (λ u. Some u) same), omega (arith, less, number))

pub false_at : (trail part : List Entry) (l : Literal) → HasDistinctVariables trail → IsPart trail part → is_false trail l ≡ true → is_false part l ≡ nat_lt (place_in trail l) (length part)
false_at trail part l distinct is lost = by_case (stands_at trail part l.variable (not l.positive) distinct is (negation_stands trail l lost))
  where
    by_case : ((sign_of part l.variable ≡ Some (not l.positive)) × (or_zero (place_of trail l.variable) < length part)) ⊎ ((sign_of part l.variable ≡ None) × (length part ≤ or_zero (place_of trail l.variable))) →
        is_false part l ≡ nat_lt (place_in trail l) (length part)
    by_case (inl inside) = false_from_stands part l inside.0 ∙ sym (lt_true _ _ inside.1)
    by_case (inr outside) = ap (λ o. is_false_value (value_by o l.positive)) outside.0 ∙ sym (lt_false _ _ outside.1)

pub true_at : (trail part : List Entry) (l : Literal) → HasDistinctVariables trail → IsPart trail part → is_true trail l ≡ true → is_true part l ≡ nat_lt (place_in trail l) (length part)
true_at trail part l distinct is holds = by_case (stands_at trail part l.variable l.positive distinct is (true_stands trail l holds))
  where
    by_case : ((sign_of part l.variable ≡ Some l.positive) × (or_zero (place_of trail l.variable) < length part)) ⊎ ((sign_of part l.variable ≡ None) × (length part ≤ or_zero (place_of trail l.variable))) →
        is_true part l ≡ nat_lt (place_in trail l) (length part)
    by_case (inl inside) = true_from_stands part l inside.0 ∙ sym (lt_true _ _ inside.1)
    by_case (inr outside) = ap (λ o. is_true_value (value_by o l.positive)) outside.0 ∙ sym (lt_false _ _ outside.1)
