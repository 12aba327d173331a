-- The number of free variables, and the first of them.
use Rattle.std.proofs.Common.{◌≡◌, ℕ, zero, suc, ◌+◌, ◌≤◌, ◌<◌, Bool, true, false, cond, not, List, [], ◌∷◌, refl, ap, ◌∙◌, sym, arith, ◌⊎◌, inl, inr}
use Rattle.std.specs.Prelude.{Option, Some, None}
use Rattle.std.proofs.lemmas.Bool.{and_from, cond_both}
use Rattle.std.proofs.lemmas.Option.{same_Some}
use Rattle.lit_base.specs.Literal.{Literal}
use Rattle.lit_base.specs.Trail.{is_free, is_full, level_now, first_free, with_decision}
use Rattle.lit_base.specs.Rounds.{NamedClause, unit_of, conflict_of, with_unit, with_units, round_by, round, is_last, rounds, propagate}
use Rattle.lit_base.specs.declared.trail.Entry.{Entry}
use Rattle.lit_base.specs.declared.name.Name.{Name}
use Rattle.lit_base.proofs.FixedPoint.{free_count, free_count-mono, free_count-less}

-- no unit and no round leaves more variables free
free_count-with_unit : (n : ℕ) (name : Name) (unit : Option Literal) (trail : List Entry) → free_count n (with_unit name unit trail) ≤ free_count n trail
free_count-with_unit n name None trail = omega arith
free_count-with_unit n name (Some l) trail =
    let e : Entry = record { lit = l; level = level_now trail; reason = Some name } in
    cond_both (is_free trail l.variable) (e ∷ trail) trail (λ after. free_count n after ≤ free_count n trail) (λ free. free_count-mono n e trail) (λ taken. omega arith)

free_count-with_units : (n : ℕ) (snapshot : List Entry) (clauses : List NamedClause) (trail : List Entry) → free_count n (with_units snapshot clauses trail) ≤ free_count n trail
free_count-with_units n snapshot [] trail = omega arith
free_count-with_units n snapshot (c ∷ others) trail =
    let first = free_count-with_unit n c.name (unit_of snapshot c.lits) trail in
    let rest = free_count-with_units n snapshot others (with_unit c.name (unit_of snapshot c.lits) trail) in
    omega (arith, first, rest)

free_count-round : (n : ℕ) (clauses : List NamedClause) (trail : List Entry) (o : Option Name) → free_count n (round_by clauses trail o).trail ≤ free_count n trail
free_count-round n clauses trail None = free_count-with_units n trail clauses trail
free_count-round n clauses trail (Some name) = omega arith

free_count-rounds : (most n : ℕ) (clauses : List NamedClause) (trail : List Entry) → free_count n (rounds most clauses trail).trail ≤ free_count n trail
free_count-rounds zero n clauses trail = omega arith
free_count-rounds (suc most) n clauses trail =
    let r = round clauses trail in
    let one = free_count-round n clauses trail (conflict_of trail clauses) in
    cond_both (is_last trail r) r (rounds most clauses r.trail) (λ after. free_count n after.trail ≤ free_count n trail)
    (λ last. one) (λ more. omega (arith, one, free_count-rounds most n clauses r.trail))

-- propagation leaves no more variables free
pub free_count-propagate : (n variables : ℕ) (clauses : List NamedClause) (trail : List Entry) →
    free_count n (propagate variables clauses trail).trail ≤ free_count n trail
free_count-propagate n variables clauses trail = free_count-rounds (variables + 1) n clauses trail

-- a decision takes one
pub free_count-decided : (n : ℕ) (l : Literal) (trail : List Entry) → is_free trail l.variable ≡ true → 1 ≤ l.variable → l.variable ≤ n →
    free_count n (with_decision l trail) + 1 ≤ free_count n trail
free_count-decided n l trail free low high = free_count-less n (record { lit = l; level = level_now trail + 1; reason = None }) trail free low high

-- the first free variable is free, and is one of those that were looked at
pub first_free-some : (n first : ℕ) (trail : List Entry) (v : ℕ) → first_free n first trail ≡ Some v → (is_free trail v ≡ true) × (first ≤ v) × (v < first + n)
first_free-some zero first trail v is = cc
first_free-some (suc n) first trail v is = by_first (is_free trail first) refl is (first_free-some n (suc first) trail v)
  where
    by_first : (b : Bool) → is_free trail first ≡ b → cond b (Some first) (first_free n (suc first) trail) ≡ Some v →
        (first_free n (suc first) trail ≡ Some v → (is_free trail v ≡ true) × (suc first ≤ v) × (v < suc first + n)) → (is_free trail v ≡ true) × (first ≤ v) × (v < first + suc n)
    by_first true free found later =
        let here : first ≡ v = same_Some first v found in
        (ap (λ w. is_free trail w) (sym here) ∙ free, omega arith, omega arith)
    by_first false taken found later = let rest = later found in (rest.0, omega (arith, rest.1), omega (arith, rest.2))

-- where none of those that were looked at is free, each of them is taken
none_free : (n first : ℕ) (trail : List Entry) (v : ℕ) → first_free n first trail ≡ None → first ≤ v → v < first + n → is_free trail v ≡ false
none_free zero first trail v none low high = absurd (omega arith)
none_free (suc n) first trail v none low high = by_first (is_free trail first) refl none (none_free n (suc first) trail v)
  where
    by_place : is_free trail first ≡ false → (suc first ≤ v → v < suc first + n → is_free trail v ≡ false) → (first ≡ v) ⊎ (suc first ≤ v) → is_free trail v ≡ false
    by_place taken later (inl here) = ap (λ w. is_free trail w) (sym here) ∙ taken
    by_place taken later (inr above) = later above (omega arith)

    by_first : (b : Bool) → is_free trail first ≡ b → cond b (Some first) (first_free n (suc first) trail) ≡ None →
        (first_free n (suc first) trail ≡ None → suc first ≤ v → v < suc first + n → is_free trail v ≡ false) → is_free trail v ≡ false
    by_first true free found later = cc
    by_first false taken found later = by_place taken (later found) (let split : (first ≡ v) ⊎ (suc first ≤ v) = grind arith in split)

full_from_none_free : (n : ℕ) (trail : List Entry) → ((v : ℕ) → 1 ≤ v → v ≤ n → is_free trail v ≡ false) → is_full n trail ≡ true
full_from_none_free zero trail taken = refl
full_from_none_free (suc n) trail taken =
    and_from (not (is_free trail (suc n))) (is_full n trail) (ap not (taken (suc n) (omega arith) (omega arith)))
    (full_from_none_free n trail (λ v low high. taken v low (omega arith)))

-- where there is none, the trail is full
pub first_free-none : (n : ℕ) (trail : List Entry) → first_free n 1 trail ≡ None → is_full n trail ≡ true
first_free-none n trail is = full_from_none_free n trail (λ v low high. none_free n 1 trail v is low (omega arith))
