-- The distinct literals of a list, one more literal at a time.
use Rattle.std.proofs.Common.{◌≡◌, ℕ, ◌==◌, ◌+◌, ◌*◌, ◌<◌, Bool, true, false, cond, not, ◌&&◌, ◌||◌, List, [], ◌∷◌, ◌++◌, filter, length, get_or, take, refl, ap, sym, ◌∙◌, subst, append-nil, arith, add-one, All}
use Rattle.std.specs.Bool.{beq}
use Rattle.std.specs.List.{list_any}
use Rattle.std.specs.Ordering.{nat_cmp}
use Rattle.std.specs.Prelude.{if◌then◌else◌}
use Rattle.std.specs.BTreeMap.{is_at}
use Rattle.std.proofs.lemmas.Bool.Decides.{nat_tests}
use Rattle.std.proofs.lemmas.Bool.{eqb-true, and_parts}
use Rattle.std.proofs.lemmas.List.Folds.{list_any-append}
use Rattle.std.proofs.lemmas.List.Elements.{filter-append, All-cons, All-head, All-tail, All-filter}
use Rattle.std.proofs.lemmas.Map.Views.{any-filter_same}
use Rattle.std.proofs.Math.Seq.{take-suc}
use Rattle.smallvec.specs.SmallVec.{SmallVec}
use Rattle.lit_base.specs.Literal.{Literal, same}
use Rattle.lit_base.specs.LitSet.{index_of}
use Rattle.lit_base.specs.Distinct.{distinct}

-- whether a list has the literal, by its place
abbrev pub has : List Literal → Literal → Bool
has lits x = list_any (λ m. index_of m == index_of x) lits

-- a list with the literal at its end, unless it is there
abbrev pub with_new : List Literal → Literal → List Literal
with_new kept x = cond (has kept x) kept (kept ++ x ∷ [])

-- vectors that are equal have the same items
pub items_of : {v w : SmallVec Literal} → v ≡ w → v.items ≡ w.items
items_of e = ap (λ (v : SmallVec Literal). v.items) e

beq-true : (p q : Bool) → beq p q ≡ true → p ≡ q
beq-true true true h = refl
beq-true true false h = cc
beq-true false true h = cc
beq-true false false h = refl

-- literals with equal variables and signs
pub literal_at : (a b : ℕ) (p q : Bool) → a ≡ b → p ≡ q → (let l : Literal = record { variable = a; positive = p } in l) ≡ record { variable = b; positive = q }
literal_at a b p q e f = cc

pub same-true : (l m : Literal) → same l m ≡ true → l ≡ m
same-true l m h =
    let parts = and_parts (l.variable == m.variable) (beq l.positive m.positive) h in
    literal_at _ _ _ _ (eqb-true _ _ parts.0) (beq-true _ _ parts.1)

places_by_cases : (v w : ℕ) (p q : Bool) → ((v == w) && beq p q) ≡ (2 * v + (if p then 0 else 1) == 2 * w + (if q then 0 else 1))
places_by_cases v w true true = grind (arith, nat_tests)
places_by_cases v w true false = grind (arith, nat_tests)
places_by_cases v w false true = grind (arith, nat_tests)
places_by_cases v w false false = grind (arith, nat_tests)

-- literals are the same where their places are
pub same-places : (l m : Literal) → same l m ≡ (index_of l == index_of m)
same-places l m = places_by_cases l.variable m.variable l.positive m.positive

-- a filter that drops one literal does not change whether another is there
has-filter_other : (l x : Literal) (lits : List Literal) → same l x ≡ false → has (filter (λ m. not (same l m)) lits) x ≡ has lits x
has-filter_other l x lits differ =
    any-filter_same (λ m. index_of m == index_of x) (λ m. not (same l m)) true
    (λ m is. let e : m ≡ x = same-true m x (same-places m x ∙ is) in subst (λ y. not (same l y) ≡ true) (sym e) (ap not differ))
    lits

-- a filter and one more literal that it keeps
filter-one_kept : {X : Type 0} (p : X → Bool) (x : X) (xs : List X) → p x ≡ true → filter p (xs ++ x ∷ []) ≡ filter p xs ++ x ∷ []
filter-one_kept p x xs is = filter-append p xs (x ∷ []) ∙ ap (λ b. filter p xs ++ cond b (x ∷ []) []) is

-- a filter and one more literal that it drops
filter-one_dropped : {X : Type 0} (p : X → Bool) (x : X) (xs : List X) → p x ≡ false → filter p (xs ++ x ∷ []) ≡ filter p xs
filter-one_dropped p x xs is = filter-append p xs (x ∷ []) ∙ (ap (λ b. filter p xs ++ cond b (x ∷ []) []) is ∙ append-nil (filter p xs))

filter-cond_kept : {X : Type 0} (p : X → Bool) (x : X) (xs : List X) (b : Bool) → p x ≡ true → filter p (cond b xs (xs ++ x ∷ [])) ≡ cond b (filter p xs) (filter p xs ++ x ∷ [])
filter-cond_kept p x xs true is = refl
filter-cond_kept p x xs false is = filter-one_kept p x xs is

filter-cond_dropped : {X : Type 0} (p : X → Bool) (x : X) (xs : List X) (b : Bool) → p x ≡ false → filter p (cond b xs (xs ++ x ∷ [])) ≡ filter p xs
filter-cond_dropped p x xs true is = refl
filter-cond_dropped p x xs false is = filter-one_dropped p x xs is

cons-cond : {X : Type 0} (x : X) (xs ys : List X) (b : Bool) → x ∷ cond b xs ys ≡ cond b (x ∷ xs) (x ∷ ys)
cons-cond x xs ys true = refl
cons-cond x xs ys false = refl

-- a new first literal leaves it the same whether one more is new
with_new_after : (l x : Literal) (lits : List Literal) (b : Bool) → (index_of l == index_of x) ≡ b →
    l ∷ filter (λ m. not (same l m)) (with_new lits x) ≡ with_new (l ∷ filter (λ m. not (same l m)) lits) x
with_new_after l x lits true is =
    let kept = filter (λ m. not (same l m)) lits in
    ap (λ t. l ∷ t) (filter-cond_dropped (λ m. not (same l m)) x lits (has lits x) (ap not (same-places l x ∙ is)))
    ∙ ap (λ b. cond (b || has kept x) (l ∷ kept) ((l ∷ kept) ++ x ∷ [])) (sym is)
with_new_after l x lits false is =
    let kept = filter (λ m. not (same l m)) lits in
    let differ : same l x ≡ false = same-places l x ∙ is in
    let there : ((index_of l == index_of x) || has kept x) ≡ has lits x = ap (λ b. b || has kept x) is ∙ has-filter_other l x lits differ in
    ap (λ t. l ∷ t) (filter-cond_kept (λ m. not (same l m)) x lits (has lits x) (ap not differ))
    ∙ (cons-cond l kept (kept ++ x ∷ []) (has lits x) ∙ ap (λ b. cond b (l ∷ kept) ((l ∷ kept) ++ x ∷ [])) (sym there))

-- the distinct literals of a list and one more
pub distinct-append_one : (lits : List Literal) (x : Literal) → distinct (lits ++ x ∷ []) ≡ with_new (distinct lits) x
distinct-append_one [] x = refl
distinct-append_one (l ∷ ls) x =
    ap (λ t. l ∷ filter (λ m. not (same l m)) t) (distinct-append_one ls x) ∙ with_new_after l x (distinct ls) (index_of l == index_of x) refl

-- one more literal of the list
pub distinct_step : (lits : List Literal) (i : ℕ) (x : Literal) → i < length lits → x ≡ get_or lits i x → distinct (take (i + 1) lits) ≡ with_new (distinct (take i lits)) x
distinct_step lits i x in_range is =
    rw add-one (rw (take-suc lits i x in_range) (rw (← is) (distinct-append_one (take i lits) x)))

-- the step of a loop: a literal that is new is kept
pub distinct_pushed : (lits kept after : List Literal) (i : ℕ) (x : Literal) → kept ≡ distinct (take i lits) → i < length lits → x ≡ get_or lits i x →
    has kept x ≡ false → after ≡ kept ++ x ∷ [] → after ≡ distinct (take (i + 1) lits)
distinct_pushed lits kept after i x before in_range is new pushed =
    pushed ∙ (ap (λ b. cond b kept (kept ++ x ∷ [])) (sym new) ∙ (ap (λ k. with_new k x) before ∙ sym (distinct_step lits i x in_range is)))

-- the step of a loop: a literal that is there is passed over
pub distinct_passed : (lits kept : List Literal) (i : ℕ) (x : Literal) → kept ≡ distinct (take i lits) → i < length lits → x ≡ get_or lits i x →
    has kept x ≡ true → kept ≡ distinct (take (i + 1) lits)
distinct_passed lits kept i x before in_range is there =
    ap (λ b. cond b kept (kept ++ x ∷ [])) (sym there) ∙ (ap (λ k. with_new k x) before ∙ sym (distinct_step lits i x in_range is))

at_place : (p k : ℕ) (b : Bool) → cond (is_at (nat_cmp p) k) true b ≡ (b || ((p == k) || false))
at_place p k b = grind (arith, nat_tests)

pub not_not : (b : Bool) → not (not b) ≡ b
not_not true = refl
not_not false = refl

-- what holds of each literal holds of each distinct one
pub All-distinct : (P : Literal → Type 0) (lits : List Literal) → All P lits → All P (distinct lits)
All-distinct P [] h = h
All-distinct P (l ∷ ls) h =
    All-cons P l (filter (λ m. not (same l m)) (distinct ls)) (All-head P l ls h)
    (All-filter (λ m. not (same l m)) P (distinct ls) (All-distinct P ls (All-tail P l ls h)))

-- the step of a set of places: with a literal's place put in, it holds those of the literals kept and that one
places_more : (kept : List Literal) (x : Literal) (k : ℕ) (b : Bool) → b ≡ list_any (λ m. index_of m == k) kept →
    cond (is_at (nat_cmp (index_of x)) k) true b ≡ list_any (λ m. index_of m == k) (kept ++ x ∷ [])
places_more kept x k b were =
    ap (λ t. cond (is_at (nat_cmp (index_of x)) k) true t) were
    ∙ (at_place (index_of x) k (list_any (λ m. index_of m == k) kept) ∙ sym (list_any-append (λ m. index_of m == k) kept (x ∷ [])))

pub places_after : (before after : ℕ → Bool) (kept pushed : List Literal) (x : Literal) (key : ℕ) → key ≡ index_of x → pushed ≡ kept ++ x ∷ [] →
    ((k : ℕ) → before k ≡ list_any (λ m. index_of m == k) kept) →
    ((k : ℕ) → after k ≡ cond (is_at (nat_cmp key) k) true (before k)) →
    (k : ℕ) → after k ≡ list_any (λ m. index_of m == k) pushed
places_after before after kept pushed x key at_x is were updated k =
    updated k ∙ (ap (λ q. cond (is_at (nat_cmp q) k) true (before k)) at_x
    ∙ (places_more kept x k (before k) (were k) ∙ ap (λ l. list_any (λ m. index_of m == k) l) (sym is)))

-- whether the list has the literal, by the set of places
pub has_by_places : (before : ℕ → Bool) (kept : List Literal) (x : Literal) (key : ℕ) → key ≡ index_of x → ((k : ℕ) → before k ≡ list_any (λ m. index_of m == k) kept) →
    (added : Bool) → added ≡ not (before key) → has kept x ≡ not added
has_by_places before kept x key at_x were added is =
    ap (λ k. list_any (λ m. index_of m == k) kept) (sym at_x) ∙ (sym (were key) ∙ (sym (not_not (before key)) ∙ ap not (sym is)))

-- the set of places where nothing is put in
pub places_same : (before after : ℕ → Bool) (kept still : List Literal) → still ≡ kept → ((k : ℕ) → after k ≡ before k) →
    ((k : ℕ) → before k ≡ list_any (λ m. index_of m == k) kept) → (k : ℕ) → after k ≡ list_any (λ m. index_of m == k) still
places_same before after kept still is unchanged were k = unchanged k ∙ (were k ∙ ap (λ l. list_any (λ m. index_of m == k) l) (sym is))

set_again : (p k : ℕ) (b : Bool) → (p ≡ k → b ≡ true) → cond (is_at (nat_cmp p) k) true b ≡ b
set_again p k true was = grind (arith, nat_tests)
set_again p k false was = grind (arith, nat_tests)

-- the set of places where the place of a literal that is there is put in again
pub places_set : (before after : ℕ → Bool) (kept still : List Literal) (x : Literal) (key : ℕ) → key ≡ index_of x → has kept x ≡ true → still ≡ kept →
    ((k : ℕ) → before k ≡ list_any (λ m. index_of m == k) kept) →
    ((k : ℕ) → after k ≡ cond (is_at (nat_cmp key) k) true (before k)) →
    (k : ℕ) → after k ≡ list_any (λ m. index_of m == k) still
places_set before after kept still x key at_x there is were updated k =
    updated k
    ∙ (set_again key k (before k) (λ same. were k ∙ (ap (λ q. list_any (λ m. index_of m == q) kept) (sym same ∙ at_x) ∙ there))
    ∙ (were k ∙ ap (λ l. list_any (λ m. index_of m == k) l) (sym is)))
