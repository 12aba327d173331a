-- One round more than there are variables suffices: propagation ends at a conflict or where a round adds nothing.
use Rattle.std.proofs.Common.{◌≡◌, ◌≢◌, ℕ, zero, suc, ◌==◌, ◌+◌, ◌<◌, ◌≤◌, Bool, true, false, cond, not, ◌&&◌, ◌||◌, List, [], ◌∷◌, ◌++◌, length, append_assoc, refl, ap, ◌∙◌, sym, subst, arith, All, ◌⊎◌, inl, inr}
use Rattle.std.specs.Prelude.{Option, Some, None, is_none, find}
use Rattle.std.specs.List.{list_all}
use Rattle.std.proofs.lemmas.Bool.{eqb-true, eqb-false, cases_eq}
use Rattle.std.proofs.lemmas.List.{nil_from_length}
use Rattle.std.proofs.lemmas.List.Elements.{All-head, All-tail, All-cons, All-nil}
use Rattle.std.proofs.Common.{length-append}
use Rattle.lit_base.specs.Literal.{Literal, IsWithin, same}
use Rattle.lit_base.specs.Cnf.{Cnf, IsFormula}
use Rattle.lit_base.specs.Truth.{Satisfies}
use Rattle.lit_base.specs.declared.trail.Entry.{Entry}
use Rattle.lit_base.specs.declared.name.Name.{Name}
use Rattle.lit_base.specs.Trail.{sign_of, is_false, is_free, is_full, level_now, model_of}
use Rattle.lit_base.specs.Rounds.{NamedClause, Propagated, original, named_from, originals, only_free, unit_of, conflict_of, with_unit, with_units, round_by, round, rounds, propagate}
use Rattle.lit_base.proofs.RoundSteps.{rounds-conflict, rounds-fixed, rounds-more}
use Rattle.lit_base.proofs.FullTrail.{satisfies_full}

-- 1 for a test that holds, else 0
abbrev pub one_if : Bool → ℕ
one_if true = 1
one_if false = 0

-- how many of the variables from 1 to n do not stand on the trail
abbrev pub free_count : ℕ → List Entry → ℕ
free_count zero trail = 0
free_count (suc n) trail = one_if (is_free trail (suc n)) + free_count n trail

pub free_count-le : (n : ℕ) (trail : List Entry) → free_count n trail ≤ n
free_count-le zero trail = omega arith
free_count-le (suc n) trail = at_most_one (is_free trail (suc n)) (free_count n trail) (free_count-le n trail)
  where
    at_most_one : (b : Bool) (k : ℕ) → k ≤ n → one_if b + k ≤ suc n
    at_most_one true k few = omega arith
    at_most_one false k few = omega arith

-- whether a variable is free after one more entry
is_free-cons : (e : Entry) (trail : List Entry) (v : ℕ) (b : Bool) → (e.lit.variable == v) ≡ b → is_free (e ∷ trail) v ≡ cond b false (is_free trail v)
is_free-cons e trail v true is = ap (λ t. is_none (cond t (Some e.lit.positive) (sign_of trail v))) is
is_free-cons e trail v false is = ap (λ t. is_none (cond t (Some e.lit.positive) (sign_of trail v))) is

-- one more entry leaves no more variables free
pub free_count-mono : (n : ℕ) (e : Entry) (trail : List Entry) → free_count n (e ∷ trail) ≤ free_count n trail
free_count-mono zero e trail = omega arith
free_count-mono (suc n) e trail = by_test (e.lit.variable == suc n) refl (free_count-mono n e trail)
  where
    by_test : (b : Bool) → (e.lit.variable == suc n) ≡ b → free_count n (e ∷ trail) ≤ free_count n trail → free_count (suc n) (e ∷ trail) ≤ free_count (suc n) trail
    by_test true is below =
        let this : one_if (is_free (e ∷ trail) (suc n)) ≡ 0 = ap one_if (is_free-cons e trail (suc n) true is) in
        omega arith
    by_test false is below =
        let this : one_if (is_free (e ∷ trail) (suc n)) ≡ one_if (is_free trail (suc n)) = ap one_if (is_free-cons e trail (suc n) false is) in
        omega arith

-- an entry of a variable that was free takes one
pub free_count-less : (n : ℕ) (e : Entry) (trail : List Entry) → is_free trail e.lit.variable ≡ true → 1 ≤ e.lit.variable → e.lit.variable ≤ n →
    free_count n (e ∷ trail) + 1 ≤ free_count n trail
free_count-less zero e trail free low high = absurd (omega arith)
free_count-less (suc n) e trail free low high = by_test (e.lit.variable == suc n) refl (free_count-less n e trail free low)
  where
    by_test : (b : Bool) → (e.lit.variable == suc n) ≡ b → (e.lit.variable ≤ n → free_count n (e ∷ trail) + 1 ≤ free_count n trail) →
        free_count (suc n) (e ∷ trail) + 1 ≤ free_count (suc n) trail
    by_test true is below =
        let here : e.lit.variable ≡ suc n = eqb-true _ _ is in
        let this : one_if (is_free (e ∷ trail) (suc n)) ≡ 0 = ap one_if (is_free-cons e trail (suc n) true is) in
        let was : one_if (is_free trail (suc n)) ≡ 1 = ap one_if (ap (λ v. is_free trail v) (sym here) ∙ free) in
        omega (arith, free_count-mono n e trail)
    by_test false is below =
        let this : one_if (is_free (e ∷ trail) (suc n)) ≡ one_if (is_free trail (suc n)) = ap one_if (is_free-cons e trail (suc n) false is) in
        let elsewhere : e.lit.variable ≡ suc n → ⊥ = eqb-false _ _ is in
        omega (arith, below (omega arith))

-- the first literal that passes a test is one of the literals
find_of_all : (P : Literal → Type 0) (p : Literal → Bool) (lits : List Literal) (l : Literal) → All P lits → find p lits ≡ Some l → P l
find_of_all P p [] l all is = cc
find_of_all P p (m ∷ others) l all is = by_test (p m) refl (find_of_all P p others l (All-tail P m others all))
  where
    by_test : (b : Bool) → p m ≡ b → (find p others ≡ Some l → P l) → P l
    by_test true passes rest =
        let first : Some m ≡ Some l = sym (ap (λ t. cond t (Some m) (find p others)) passes) ∙ is in
        let one : m ≡ l = cc in subst P one (All-head P m others all)
    by_test false fails rest = rest (sym (ap (λ t. cond t (Some m) (find p others)) fails) ∙ is)

-- what holds of each literal of a clause holds of its unit
pub unit_of_all : (P : Literal → Type 0) (trail : List Entry) (lits : List Literal) (l : Literal) → All P lits → unit_of trail lits ≡ Some l → P l
unit_of_all P trail lits l all is = by_first (find (λ m. not (is_false trail m)) lits) refl
  where
    by_test : (k : Literal) → find (λ m. not (is_false trail m)) lits ≡ Some k → (b : Bool) → cond b (Some k) None ≡ Some l → P l
    by_test k found true unit = let one : k ≡ l = cc in subst P one (find_of_all P (λ m. not (is_false trail m)) lits k all found)
    by_test k found false unit = cc

    by_first : (o : Option Literal) → find (λ m. not (is_false trail m)) lits ≡ o → P l
    by_first None found = let clash : None ≡ Some l = sym (ap (only_free trail lits) found) ∙ is in cc
    by_first (Some k) found =
        by_test k found (is_free trail k.variable && list_all (λ m. is_false trail m || same m k) lits) (sym (ap (only_free trail lits) found) ∙ is)

-- what one more entry adds, if it is added
grown : (n : ℕ) (e : Entry) (trail : List Entry) (b : Bool) → (b ≡ true → free_count n (e ∷ trail) + 1 ≤ free_count n trail) →
    (length trail ≤ length (cond b (e ∷ trail) trail)) × (length (cond b (e ∷ trail) trail) + free_count n (cond b (e ∷ trail) trail) ≤ length trail + free_count n trail)
grown n e trail true less = (omega arith, omega (arith, less refl))
grown n e trail false less = (omega arith, omega arith)

-- what a unit adds: nothing, or an entry of a variable that was free
with_unit_within : (n : ℕ) (name : Name) (unit : Option Literal) (trail : List Entry) → ((l : Literal) → unit ≡ Some l → IsWithin n l) →
    (length trail ≤ length (with_unit name unit trail)) × (length (with_unit name unit trail) + free_count n (with_unit name unit trail) ≤ length trail + free_count n trail)
with_unit_within n name None trail within = (omega arith, omega arith)
with_unit_within n name (Some l) trail within =
    grown n (record { lit = l; level = level_now trail; reason = Some name }) trail (is_free trail l.variable)
    (λ free. free_count-less n (record { lit = l; level = level_now trail; reason = Some name }) trail free (within l refl).0 (within l refl).1)

-- a round: the trail does not get shorter, and each entry that it adds takes a free variable
with_units_within : (n : ℕ) (snapshot : List Entry) (clauses : List NamedClause) (trail : List Entry) → All (λ c. All (IsWithin n) c.lits) clauses →
    (length trail ≤ length (with_units snapshot clauses trail))
    × (length (with_units snapshot clauses trail) + free_count n (with_units snapshot clauses trail) ≤ length trail + free_count n trail)
with_units_within n snapshot [] trail within = (omega arith, omega arith)
with_units_within n snapshot (c ∷ others) trail within =
    let unit = unit_of snapshot c.lits in
    let first = with_unit_within n c.name unit trail (λ l is. unit_of_all (IsWithin n) snapshot c.lits l (All-head (λ d. All (IsWithin n) d.lits) c others within) is) in
    let rest = with_units_within n snapshot others (with_unit c.name unit trail) (All-tail (λ d. All (IsWithin n) d.lits) c others within) in
    (omega (arith, first.0, rest.0), omega (arith, first.1, rest.1))

-- a round only adds entries in front
with_unit_front : (name : Name) (unit : Option Literal) (trail : List Entry) → (front : List Entry) × (with_unit name unit trail ≡ front ++ trail)
with_unit_front name None trail = ([], refl)
with_unit_front name (Some l) trail = by_test (is_free trail l.variable)
  where
    by_test : (b : Bool) → (front : List Entry) × (cond b (record { lit = l; level = level_now trail; reason = Some name } ∷ trail) trail ≡ front ++ trail)
    by_test true = (record { lit = l; level = level_now trail; reason = Some name } ∷ [], refl)
    by_test false = ([], refl)

pub with_units_front : (snapshot : List Entry) (clauses : List NamedClause) (trail : List Entry) → (front : List Entry) × (with_units snapshot clauses trail ≡ front ++ trail)
with_units_front snapshot [] trail = ([], refl)
with_units_front snapshot (c ∷ others) trail =
    let first = with_unit_front c.name (unit_of snapshot c.lits) trail in
    let rest = with_units_front snapshot others (with_unit c.name (unit_of snapshot c.lits) trail) in
    (rest.0 ++ first.0, rest.1 ∙ (ap (λ t. rest.0 ++ t) first.1 ∙ sym (append_assoc rest.0 first.0 trail)))

-- a round that adds nothing leaves the trail
with_units_same : (snapshot : List Entry) (clauses : List NamedClause) (trail : List Entry) → length (with_units snapshot clauses trail) ≡ length trail → with_units snapshot clauses trail ≡ trail
with_units_same snapshot clauses trail same_length =
    let front = with_units_front snapshot clauses trail in
    let long : length (with_units snapshot clauses trail) ≡ length (front.0 ++ trail) = ap length front.1 in
    let none : front.0 ≡ [] = nil_from_length front.0 (omega (arith, length-append front.0 trail)) in
    front.1 ∙ ap (λ t. t ++ trail) none

-- the end of the rounds stays the same in another round
abbrev Stays : List NamedClause → Propagated → Type 0
Stays clauses end = round clauses end.trail ≡ end

stays_conflict : (fuel : ℕ) (clauses : List NamedClause) (trail : List Entry) (name : Name) → conflict_of trail clauses ≡ Some name → Stays clauses (rounds (suc fuel) clauses trail)
stays_conflict fuel clauses trail name found =
    subst (λ (r : Propagated). round clauses r.trail ≡ r) (sym (rounds-conflict fuel clauses trail name found)) (ap (λ o. round_by clauses trail o) found)

stays_fixed : (fuel : ℕ) (clauses : List NamedClause) (trail : List Entry) → conflict_of trail clauses ≡ None → length (with_units trail clauses trail) ≡ length trail →
    Stays clauses (rounds (suc fuel) clauses trail)
stays_fixed fuel clauses trail none same_length =
    subst (λ (r : Propagated). round clauses r.trail ≡ r) (sym (rounds-fixed fuel clauses trail none same_length))
    (ap (λ t. round clauses t) (with_units_same trail clauses trail same_length) ∙ ap (λ o. round_by clauses trail o) none)

stays_more : (n fuel : ℕ) (clauses : List NamedClause) (trail : List Entry) → All (λ c. All (IsWithin n) c.lits) clauses → free_count n trail < suc fuel →
    conflict_of trail clauses ≡ None → (length (with_units trail clauses trail) ≡ length trail → ⊥) →
    (free_count n (with_units trail clauses trail) < fuel → Stays clauses (rounds fuel clauses (with_units trail clauses trail))) → Stays clauses (rounds (suc fuel) clauses trail)
stays_more n fuel clauses trail within enough none more further =
    let room = with_units_within n trail clauses trail within in
    let longer : length (with_units trail clauses trail) ≢ length trail = more in
    subst (λ (r : Propagated). round clauses r.trail ≡ r) (sym (rounds-more fuel clauses trail none more)) (further (omega (arith, room.0, room.1)))

-- with one round more than there are free variables, the end is a fixed point of the round
fixed : (n fuel : ℕ) (clauses : List NamedClause) (trail : List Entry) → All (λ c. All (IsWithin n) c.lits) clauses → free_count n trail < fuel → Stays clauses (rounds fuel clauses trail)
fixed n zero clauses trail within enough = absurd (omega arith)
fixed n (suc fuel) clauses trail within enough = by_conflict (conflict_of trail clauses) refl (fixed n fuel clauses (with_units trail clauses trail) within)
  where
    by_length : conflict_of trail clauses ≡ None → (free_count n (with_units trail clauses trail) < fuel → Stays clauses (rounds fuel clauses (with_units trail clauses trail))) →
        (length (with_units trail clauses trail) ≡ length trail) ⊎ (length (with_units trail clauses trail) ≡ length trail → ⊥) → Stays clauses (rounds (suc fuel) clauses trail)
    by_length none further (inl same_length) = stays_fixed fuel clauses trail none same_length
    by_length none further (inr more) = stays_more n fuel clauses trail within enough none more further

    by_conflict : (o : Option Name) → conflict_of trail clauses ≡ o →
        (free_count n (with_units trail clauses trail) < fuel → Stays clauses (rounds fuel clauses (with_units trail clauses trail))) → Stays clauses (rounds (suc fuel) clauses trail)
    by_conflict (Some name) found further = stays_conflict fuel clauses trail name found
    by_conflict None none further = by_length none further (cases_eq (length (with_units trail clauses trail)) (length trail))

-- propagation ends at a fixed point of the round
pub round-propagate : (variables : ℕ) (clauses : List NamedClause) (trail : List Entry) → All (λ c. All (IsWithin variables) c.lits) clauses →
    round clauses (propagate variables clauses trail).trail ≡ propagate variables clauses trail
round-propagate variables clauses trail within = fixed variables (variables + 1) clauses trail within (omega (arith, free_count-le variables trail))

round_by-conflict : (clauses : List NamedClause) (snapshot : List Entry) (o : Option Name) → (round_by clauses snapshot o).conflict ≡ o
round_by-conflict clauses snapshot None = refl
round_by-conflict clauses snapshot (Some name) = refl

-- the conflict that propagation answers stands in the trail that it answers, and there is none where it answers none
pub conflict_of-propagate : (variables : ℕ) (clauses : List NamedClause) (trail : List Entry) → All (λ c. All (IsWithin variables) c.lits) clauses →
    conflict_of (propagate variables clauses trail).trail clauses ≡ (propagate variables clauses trail).conflict
conflict_of-propagate variables clauses trail within =
    let end = propagate variables clauses trail in
    sym (round_by-conflict clauses end.trail (conflict_of end.trail clauses)) ∙ ap (λ r. r.conflict) (round-propagate variables clauses trail within)

-- the literals of a formula's clauses are within its variables, under their names too
pub named_within : (n index : ℕ) (clauses : List (List Literal)) → All (All (IsWithin n)) clauses → All (λ c. All (IsWithin n) c.lits) (named_from index clauses)
named_within n index [] within = All-nil (λ c. All (IsWithin n) c.lits)
named_within n index (lits ∷ others) within =
    All-cons (λ c. All (IsWithin n) c.lits) (record { name = original index; lits = lits }) (named_from (index + 1) others)
    (All-head (All (IsWithin n)) lits others within) (named_within n (index + 1) others (All-tail (All (IsWithin n)) lits others within))

-- propagation from any trail that ends without a conflict and leaves no variable free gives a model of the formula
pub satisfies_propagated : (cnf : Cnf) (trail : List Entry) → IsFormula cnf → (propagate cnf.variables (originals cnf) trail).conflict ≡ None →
    is_full cnf.variables (propagate cnf.variables (originals cnf) trail).trail ≡ true →
    Satisfies (model_of cnf.variables (propagate cnf.variables (originals cnf) trail).trail) cnf
satisfies_propagated cnf trail formula none full =
    satisfies_full cnf (propagate cnf.variables (originals cnf) trail).trail formula full
    (conflict_of-propagate cnf.variables (originals cnf) trail (named_within cnf.variables 0 cnf.clauses formula.within) ∙ none)
