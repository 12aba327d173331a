-- The place of a variable, and the entry there.
use Rattle.std.proofs.Common.{◌≡◌, ℕ, zero, suc, ◌==◌, ◌<◌, Bool, true, false, cond, List, [], ◌∷◌, ◌++◌, length, reverse, get_or, refl, ap, ◌∙◌, sym, subst, arith}
use Rattle.std.specs.Prelude.{Option, Some, None, is_none, IfSome, slice_get}
use Rattle.std.specs.List.{AllByRecursion}
use Rattle.std.proofs.lemmas.Bool.{eqb-true}
use Rattle.std.proofs.lemmas.List.{reverse-append, reverse-reverse, length-reverse}
use Rattle.std.proofs.lemmas.Option.{same_Some, slice_get_read}
use Rattle.lit_base.specs.declared.trail.Entry.{Entry}
use Rattle.lit_base.specs.Trail.{sign_of, is_free, level_of}
use Rattle.trail_book.specs.TrailState.{place_of}

-- an item within the front of a list
slice_get-front : {X : Type 0} (xs ys : List X) (i : ℕ) (x : X) → slice_get xs i ≡ Some x → slice_get (xs ++ ys) i ≡ Some x
slice_get-front [] ys i x is = cc
slice_get-front (y ∷ xs) ys zero x is = is
slice_get-front (y ∷ xs) ys (suc i) x is = slice_get-front xs ys i x is

-- the item after a list
slice_get-after : {X : Type 0} (xs : List X) (x : X) → slice_get (xs ++ x ∷ []) (length xs) ≡ Some x
slice_get-after [] x = refl
slice_get-after (y ∷ xs) x = slice_get-after xs x

-- the oldest first: the newest entry is the last
reverse-cons : (e : Entry) (older : List Entry) → reverse (e ∷ older) ≡ reverse older ++ e ∷ []
reverse-cons e older = reverse-append (e ∷ []) older

-- what the place of a variable gives: it is within the trail, and the entry there, counted from the oldest, is the variable's
pub record IsPlaceOf (trail : List Entry) (v place : ℕ) : Type 0 where
  pub within : place < length trail
  pub entry : Entry
  pub stands : slice_get (reverse trail) place ≡ Some entry
  pub variable : entry.lit.variable ≡ v
  pub sign : sign_of trail v ≡ Some entry.lit.positive
  pub level : level_of trail v ≡ Some entry.level

pub place_of-entry : (trail : List Entry) (v place : ℕ) → place_of trail v ≡ Some place → IsPlaceOf trail v place
place_of-entry [] v place is = cc
place_of-entry (e ∷ older) v place is = by_test (e.lit.variable == v) refl is (place_of-entry older v place)
  where
    by_test : (b : Bool) → (e.lit.variable == v) ≡ b → cond b (Some (length older)) (place_of older v) ≡ Some place → (place_of older v ≡ Some place → IsPlaceOf older v place) → IsPlaceOf (e ∷ older) v place
    by_test true here is rest =
        let at : length older ≡ place = cc in
        record {
          within = omega arith;
          entry = e;
          stands = rw (reverse-cons e older) (subst (λ p. slice_get (reverse older ++ e ∷ []) p ≡ Some e) (length-reverse older ∙ at) (slice_get-after (reverse older) e));
          variable = eqb-true _ _ here;
          sign = ap (λ b. cond b (Some e.lit.positive) (sign_of older v)) here;
          level = ap (λ b. cond b (Some e.level) (level_of older v)) here;
        }
    by_test false other is rest =
        let there = rest is in
        record {
          within = omega (arith, there.within);
          entry = there.entry;
          stands = rw (reverse-cons e older) (slice_get-front (reverse older) (e ∷ []) place there.entry there.stands);
          variable = there.variable;
          sign = ap (λ b. cond b (Some e.lit.positive) (sign_of older v)) other ∙ there.sign;
          level = ap (λ b. cond b (Some e.level) (level_of older v)) other ∙ there.level;
        }

-- two choices by one test are both there, or neither is
none_with : {A B : Type 0} (a : A) (b : B) (here : Bool) (o : Option A) (p : Option B) → is_none o ≡ is_none p → is_none (cond here (Some a) o) ≡ is_none (cond here (Some b) p)
none_with a b true o p same = refl
none_with a b false o p same = same

pub none_is : {A : Type 0} (o : Option A) → is_none o ≡ true → o ≡ None
none_is None none = refl
none_is (Some x) none = cc

pub place_of-within : (trail : List Entry) (v : ℕ) (o : Option ℕ) → o ≡ place_of trail v → IfSome o (λ place. place < length trail)
place_of-within trail v None is = tt
place_of-within trail v (Some place) is = (place_of-entry trail v place (sym is)).within

-- the entry at a variable's place has the variable's sign, and its level
pub sign_at-place : (trail : List Entry) (v place : ℕ) (e : Entry) → place_of trail v ≡ Some place → slice_get (reverse trail) place ≡ Some e → sign_of trail v ≡ Some e.lit.positive
sign_at-place trail v place e is there =
    let at = place_of-entry trail v place is in
    at.sign ∙ ap (λ (x : Entry). Some x.lit.positive) (same_Some at.entry e (sym at.stands ∙ there))

pub level_at-place : (trail : List Entry) (v place : ℕ) (e : Entry) → place_of trail v ≡ Some place → slice_get (reverse trail) place ≡ Some e → level_of trail v ≡ Some e.level
level_at-place trail v place e is there =
    let at = place_of-entry trail v place is in
    at.level ∙ ap (λ (x : Entry). Some x.level) (same_Some at.entry e (sym at.stands ∙ there))

-- a free variable has no sign
pub sign_of-free : (trail : List Entry) (v : ℕ) → is_free trail v ≡ true → sign_of trail v ≡ None
sign_of-free trail v free = none_is (sign_of trail v) free

-- a variable is free where it has no level, and where it has no place
pub level_of-is_none : (trail : List Entry) (v : ℕ) → is_none (level_of trail v) ≡ is_free trail v
level_of-is_none [] v = refl
level_of-is_none (e ∷ older) v = none_with e.level e.lit.positive (e.lit.variable == v) (level_of older v) (sign_of older v) (level_of-is_none older v)

pub place_of-is_none : (trail : List Entry) (v : ℕ) → is_none (place_of trail v) ≡ is_free trail v
place_of-is_none [] v = refl
place_of-is_none (e ∷ older) v = none_with (length older) e.lit.positive (e.lit.variable == v) (place_of older v) (sign_of older v) (place_of-is_none older v)

pub level_of-free : (trail : List Entry) (v : ℕ) → is_free trail v ≡ true → level_of trail v ≡ None
level_of-free trail v free = none_is (level_of trail v) (level_of-is_none trail v ∙ free)

pub place_of-free : (trail : List Entry) (v : ℕ) → is_free trail v ≡ true → place_of trail v ≡ None
place_of-free trail v free = none_is (place_of trail v) (place_of-is_none trail v ∙ free)

-- what holds of each entry holds of the one at a place, counted from the oldest
all_end : (P : Entry → Type 0) (entries : List Entry) (e : Entry) → AllByRecursion P entries → P e → AllByRecursion P (entries ++ e ∷ [])
all_end P [] e all here = (here, tt)
all_end P (first ∷ others) e all here = (all.0, all_end P others e all.1 here)

all_turned : (P : Entry → Type 0) (trail : List Entry) → AllByRecursion P trail → AllByRecursion P (reverse trail)
all_turned P [] all = tt
all_turned P (e ∷ older) all = rw (reverse-cons e older) (all_end P (reverse older) e (all_turned P older all.1) all.0)

all_at : (P : Entry → Type 0) (entries : List Entry) (place : ℕ) (e : Entry) → AllByRecursion P entries → slice_get entries place ≡ Some e → P e
all_at P [] place e all is = cc
all_at P (first ∷ others) zero e all is = subst P (same_Some first e is) all.0
all_at P (first ∷ others) (suc place) e all is = all_at P others place e all.1 is

holds_at : (P : Entry → Type 0) (trail : List Entry) (place : ℕ) (e : Entry) → AllByRecursion P trail → slice_get (reverse trail) place ≡ Some e → P e
holds_at P trail place e all is = all_at P (reverse trail) place e (all_turned P trail all) is

-- the entry at a place of the entries that are held, oldest first
pub held_at : (P : Entry → Type 0) (items trail : List Entry) (place : ℕ) (e : Entry) → reverse items ≡ trail → AllByRecursion P trail → place < length trail → e ≡ get_or items place e → P e
held_at P items trail place e view all below is =
    let turned : reverse trail ≡ items = ap reverse (sym view) ∙ reverse-reverse items in
    let same : length trail ≡ length items = ap length (sym view) ∙ length-reverse items in
    holds_at P trail place e all (rw turned (slice_get_read items (length items) place e refl (omega arith) is))
