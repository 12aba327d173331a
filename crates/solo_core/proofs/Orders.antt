-- Each variable that is free on the trail is in the order from which variables are picked, step after step.
use Rattle.std.proofs.Common.{◌≡◌, ℕ, zero, suc, ◌==◌, ◌+◌, ◌-◌, ◌≤◌, Bool, true, false, cond, List, [], ◌∷◌, length, get_or, replicate, refl, ap, sym, ◌∙◌, subst, arith, get_or-set_other}
use Rattle.std.specs.Prelude.{Option, Some, None, is_none, ◌≢◌}
use Rattle.std.proofs.lemmas.Bool.{cond_both, eqb-true, eqb-false}
use Rattle.lit_base.specs.Literal.{Literal}
use Rattle.lit_base.specs.Trail.{sign_of, is_free, level_now}
use Rattle.lit_base.specs.Rounds.{NamedClause, unit_of, conflict_of, with_unit, with_units, round_by, round, is_last, rounds, propagate}
use Rattle.lit_base.specs.declared.trail.Entry.{Entry}
use Rattle.lit_base.specs.declared.name.Name.{Name}
use Rattle.var_order.specs.Order.{OrderState, first_order, is_present, HasAllFree, put_back}

-- what is free on a trail was free before its newest entry, and is of another variable
record IsFreeBefore (e : Entry) (older : List Entry) (v : ℕ) : Type 0 where
  other : e.lit.variable ≡ v → ⊥
  free : is_free older v ≡ true

free_before : (e : Entry) (older : List Entry) (v : ℕ) → is_free (e ∷ older) v ≡ true → IsFreeBefore e older v
free_before e older v = by_test (e.lit.variable == v) refl
  where
    by_test : (b : Bool) → (e.lit.variable == v) ≡ b → is_none (cond b (Some e.lit.positive) (sign_of older v)) ≡ true → IsFreeBefore e older v
    by_test true here free = let clash : false ≡ true = free in cc
    by_test false other free = record { other = eqb-false e.lit.variable v other; free = free }

-- a variable that leaves the trail is put back, and the others stay
pub left_present : (s after : OrderState) (e : Entry) (older : List Entry) → 1 ≤ e.lit.variable → after ≡ put_back e.lit.variable s → is_present after e.lit.variable ≡ true →
    HasAllFree s (e ∷ older) → HasAllFree after older
left_present s after e older low is back all v some within free = by_test (e.lit.variable == v) refl
  where
    still : is_free (e ∷ older) v ≡ true → (v - 1) ≢ (e.lit.variable - 1) → is_present after v ≡ true
    still free_then apart =
        ap (λ (o : OrderState). is_present o v) is
        ∙ (get_or-set_other s.present (e.lit.variable - 1) (v - 1) true false apart
        ∙ all v some (let size : length after.activities ≡ length s.activities = ap (λ (o : OrderState). length o.activities) is in omega (arith, within, size)) free_then)

    by_test : (b : Bool) → (e.lit.variable == v) ≡ b → is_present after v ≡ true
    by_test true here = subst (λ w. is_present after w ≡ true) (eqb-true e.lit.variable v here) back
    by_test false other =
        let differ : e.lit.variable ≡ v → ⊥ = eqb-false e.lit.variable v other in
        still (ap (λ b. is_none (cond b (Some e.lit.positive) (sign_of older v))) other ∙ free) (λ same. differ (omega (arith, same, low, some)))

-- the variable that is decided leaves the order, and no other that is free
pub decided_present : (s after : OrderState) (e : Entry) (trail : List Entry) (picked : Option ℕ) → picked ≡ Some e.lit.variable → after.activities ≡ s.activities →
    ((v : ℕ) → 1 ≤ v → is_free trail v ≡ true → picked ≢ Some v → is_present after v ≡ is_present s v) → HasAllFree s trail → HasAllFree after (e ∷ trail)
decided_present s after e trail picked is same others all v some within free =
    let before = free_before e trail v free in
    others v some before.free (λ picks. before.other (let one : Some e.lit.variable ≡ Some v = sym is ∙ picks in cc))
    ∙ all v some (let size : length after.activities ≡ length s.activities = ap (λ (a : List ℕ). length a) same in omega (arith, within, size)) before.free

-- where no variable is picked nothing free leaves the order
pub unpicked_present : (s after : OrderState) (trail : List Entry) (picked : Option ℕ) → picked ≡ None → after.activities ≡ s.activities →
    ((v : ℕ) → 1 ≤ v → is_free trail v ≡ true → picked ≢ Some v → is_present after v ≡ is_present s v) → HasAllFree s trail → HasAllFree after trail
unpicked_present s after trail picked is same others all v some within free =
    others v some free (λ picks. let clash : None ≡ Some v = sym is ∙ picks in cc)
    ∙ all v some (let size : length after.activities ≡ length s.activities = ap (λ (a : List ℕ). length a) same in omega (arith, within, size)) free

-- no unit and no round frees a variable
free-with_unit : (name : Name) (unit : Option Literal) (trail : List Entry) (v : ℕ) → is_free (with_unit name unit trail) v ≡ true → is_free trail v ≡ true
free-with_unit name None trail v free = free
free-with_unit name (Some l) trail v free =
    let e : Entry = record { lit = l; level = level_now trail; reason = Some name } in
    cond_both (is_free trail l.variable) (e ∷ trail) trail (λ after. is_free after v ≡ true → is_free trail v ≡ true)
    (λ added still. (free_before e trail v still).free) (λ taken still. still) free

free-with_units : (snapshot : List Entry) (clauses : List NamedClause) (trail : List Entry) (v : ℕ) → is_free (with_units snapshot clauses trail) v ≡ true → is_free trail v ≡ true
free-with_units snapshot [] trail v free = free
free-with_units snapshot (c ∷ others) trail v free =
    free-with_unit c.name (unit_of snapshot c.lits) trail v (free-with_units snapshot others (with_unit c.name (unit_of snapshot c.lits) trail) v free)

free-round : (clauses : List NamedClause) (trail : List Entry) (o : Option Name) (v : ℕ) → is_free (round_by clauses trail o).trail v ≡ true → is_free trail v ≡ true
free-round clauses trail None v free = free-with_units trail clauses trail v free
free-round clauses trail (Some name) v free = free

free-rounds : (most : ℕ) (clauses : List NamedClause) (trail : List Entry) (v : ℕ) → is_free (rounds most clauses trail).trail v ≡ true → is_free trail v ≡ true
free-rounds zero clauses trail v free = free
free-rounds (suc most) clauses trail v free =
    let r = round clauses trail in
    cond_both (is_last trail r) r (rounds most clauses r.trail) (λ after. is_free after.trail v ≡ true → is_free trail v ≡ true)
    (λ last still. free-round clauses trail (conflict_of trail clauses) v still)
    (λ more still. free-round clauses trail (conflict_of trail clauses) v (free-rounds most clauses r.trail v still)) free

-- propagation frees no variable
pub propagated_present : (s : OrderState) (variables : ℕ) (clauses : List NamedClause) (trail : List Entry) → HasAllFree s trail → HasAllFree s (propagate variables clauses trail).trail
propagated_present s variables clauses trail all v some within free = all v some within (free-rounds (variables + 1) clauses trail v free)

-- at first all variables are in the order
pub first_present : (start : List ℕ) (trail : List Entry) → HasAllFree (first_order start) trail
first_present start trail v some within free = all_true (length start) (v - 1) (omega arith)
  where
    all_true : (n place : ℕ) → place + 1 ≤ n → get_or (replicate n true) place false ≡ true
    all_true zero place few = absurd (omega arith)
    all_true (suc n) zero few = refl
    all_true (suc n) (suc place) few = all_true n place (omega arith)
