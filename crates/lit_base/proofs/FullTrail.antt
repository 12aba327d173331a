-- A trail that leaves no variable free and falsifies no clause gives a model of the formula.
use Rattle.std.proofs.Common.{◌≡◌, ℕ, zero, suc, ◌+◌, ◌-◌, ◌<◌, ◌≤◌, Bool, true, false, cond, not, ◌&&◌, ◌||◌, List, [], ◌∷◌, length, get_or, refl, ap, ◌∙◌, sym, arith, add-zero, All, ◌⊎◌, inl, inr}
use Rattle.std.specs.Prelude.{Option, Some, None, is_none, option_map, find}
use Rattle.std.specs.Bool.{beq}
use Rattle.std.specs.List.{list_all}
use Rattle.std.proofs.lemmas.Bool.{and_parts, and_from}
use Rattle.std.proofs.lemmas.List.Elements.{All-head, All-tail}
use Rattle.lit_base.specs.Literal.{Literal, IsWithin}
use Rattle.lit_base.specs.Cnf.{Cnf, IsFormula}
use Rattle.lit_base.specs.Truth.{value_in, is_true_in, is_clause_true, Satisfies}
use Rattle.lit_base.specs.declared.trail.Entry.{Entry}
use Rattle.lit_base.specs.Trail.{sign_of, value_by, is_false, is_false_value, is_free, is_full, value_or_false, values_from, model_of}
use Rattle.lit_base.specs.Rounds.{NamedClause, original, named_from, originals, is_falsified, conflict_of}

-- as many values as were asked for
length-values_from : (n first : ℕ) (trail : List Entry) → length (values_from n first trail) ≡ n
length-values_from zero first trail = refl
length-values_from (suc n) first trail = ap suc (length-values_from n (suc first) trail)

-- a model that is read off a trail has a value for each variable
pub length-model_of : (n : ℕ) (trail : List Entry) → length (model_of n trail) ≡ n
length-model_of n trail = length-values_from n 1 trail

-- the value at a place
get_or-values_from : (n first i : ℕ) (trail : List Entry) → i < n → get_or (values_from n first trail) i false ≡ value_or_false (sign_of trail (first + i))
get_or-values_from zero first i trail below = absurd (omega arith)
get_or-values_from (suc n) first zero trail below = ap (λ v. value_or_false (sign_of trail v)) (sym (add-zero first))
get_or-values_from (suc n) first (suc i) trail below =
    get_or-values_from n (suc first) i trail (omega arith)
    ∙ ap (λ v. value_or_false (sign_of trail v)) (let e : suc first + i ≡ first + suc i = omega arith in e)

-- the value of a variable in the model is its sign on the trail
value_in-model_of : (n v : ℕ) (trail : List Entry) → 1 ≤ v → v ≤ n → value_in (model_of n trail) v ≡ value_or_false (sign_of trail v)
value_in-model_of n v trail low high =
    get_or-values_from n 1 (v - 1) trail (omega arith) ∙ ap (λ k. value_or_false (sign_of trail k)) (let e : 1 + (v - 1) ≡ v = omega arith in e)

-- a full trail leaves no variable free
not_free_by : (n v : ℕ) (trail : List Entry) → is_full n trail ≡ true → 1 ≤ v → (v ≡ n) ⊎ (v < n) → is_free trail v ≡ false
not_free_by zero v trail full low (inl is) = absurd (omega arith)
not_free_by zero v trail full low (inr below) = absurd (omega arith)
not_free_by (suc n) v trail full low (inl is) =
    ap (λ k. is_free trail k) is ∙ from_not (is_free trail (suc n)) (and_parts (not (is_free trail (suc n))) (is_full n trail) full).0
  where
    from_not : (b : Bool) → not b ≡ true → b ≡ false
    from_not true h = sym h
    from_not false h = refl
not_free_by (suc n) v trail full low (inr below) =
    not_free_by n v trail (and_parts (not (is_free trail (suc n))) (is_full n trail) full).1 low (let split : (v ≡ n) ⊎ (v < n) = grind arith in split)

pub not_free : (n v : ℕ) (trail : List Entry) → is_full n trail ≡ true → 1 ≤ v → v ≤ n → is_free trail v ≡ false
not_free n v trail full low high = not_free_by n v trail full low (let split : (v ≡ n) ⊎ (v < n) = grind arith in split)

-- a literal with a sign on the trail is true in the model or false on the trail
true_unless_false : (sign : Option Bool) (positive : Bool) → is_none sign ≡ false → is_false_value (value_by sign positive) ≡ false → beq (value_or_false sign) positive ≡ true
true_unless_false None positive there open_to = cc
true_unless_false (Some true) true there open_to = refl
true_unless_false (Some true) false there open_to = cc
true_unless_false (Some false) true there open_to = cc
true_unless_false (Some false) false there open_to = refl

literal_true : (n : ℕ) (trail : List Entry) (l : Literal) → is_full n trail ≡ true → IsWithin n l → is_false trail l ≡ false → is_true_in (model_of n trail) l ≡ true
literal_true n trail l full within holds =
    ap (λ b. beq b l.positive) (value_in-model_of n l.variable trail within.0 within.1)
    ∙ true_unless_false (sign_of trail l.variable) l.positive (not_free n l.variable trail full within.0 within.1) holds

-- a clause that is not falsified is true in the model
clause_by : (a b p q : Bool) → (a ≡ false → p ≡ true) → (b ≡ false → q ≡ true) → (a && b) ≡ false → (p || q) ≡ true
clause_by true b true q first rest h = refl
clause_by true b false q first rest h = rest h
clause_by false b p q first rest h = ap (λ t. t || q) (first refl)

pub clause_true : (n : ℕ) (trail : List Entry) (lits : List Literal) → is_full n trail ≡ true → All (IsWithin n) lits → is_falsified trail lits ≡ false → is_clause_true (model_of n trail) lits ≡ true
clause_true n trail [] full within holds = sym holds
clause_true n trail (l ∷ ls) full within holds =
    clause_by (is_false trail l) (is_falsified trail ls) (is_true_in (model_of n trail) l) (is_clause_true (model_of n trail) ls)
    (literal_true n trail l full (All-head (IsWithin n) l ls within))
    (clause_true n trail ls full (All-tail (IsWithin n) l ls within)) holds

-- where no clause is falsified the first is not, and none of the others is
pub first_holds : (trail : List Entry) (c : NamedClause) (others : List NamedClause) → conflict_of trail (c ∷ others) ≡ None → is_falsified trail c.lits ≡ false
first_holds trail c others none = by_test (is_falsified trail c.lits) refl
  where
    by_test : (b : Bool) → is_falsified trail c.lits ≡ b → b ≡ false
    by_test true is =
        let found : conflict_of trail (c ∷ others) ≡ Some c.name = ap (λ t. option_map (λ n. n.name) (cond t (Some c) (find (λ n. is_falsified trail n.lits) others))) is in
        let clash : Some c.name ≡ None = sym found ∙ none in cc
    by_test false is = refl

pub others_hold : (trail : List Entry) (c : NamedClause) (others : List NamedClause) → conflict_of trail (c ∷ others) ≡ None → conflict_of trail others ≡ None
others_hold trail c others none =
    sym (ap (λ t. option_map (λ n. n.name) (cond t (Some c) (find (λ n. is_falsified trail n.lits) others))) (first_holds trail c others none)) ∙ none

clauses_true : (n index : ℕ) (trail : List Entry) (clauses : List (List Literal)) → is_full n trail ≡ true → All (All (IsWithin n)) clauses →
    conflict_of trail (named_from index clauses) ≡ None → list_all (is_clause_true (model_of n trail)) clauses ≡ true
clauses_true n index trail [] full within none = refl
clauses_true n index trail (lits ∷ others) full within none =
    let this : NamedClause = record { name = original index; lits = lits } in
    and_from (is_clause_true (model_of n trail) lits) (list_all (is_clause_true (model_of n trail)) others)
    (clause_true n trail lits full (All-head (All (IsWithin n)) lits others within) (first_holds trail this (named_from (index + 1) others) none))
    (clauses_true n (index + 1) trail others full (All-tail (All (IsWithin n)) lits others within) (others_hold trail this (named_from (index + 1) others) none))

-- a full trail that falsifies no clause gives a model of the formula
pub satisfies_full : (cnf : Cnf) (trail : List Entry) → IsFormula cnf → is_full cnf.variables trail ≡ true → conflict_of trail (originals cnf) ≡ None →
    Satisfies (model_of cnf.variables trail) cnf
satisfies_full cnf trail formula full none = clauses_true cnf.variables 0 trail cnf.clauses full formula.within none
