-- Trails whose literals are within the variables.
use Rattle.std.proofs.Common.{◌≡◌, ℕ, zero, suc, ◌+◌, ◌==◌, ◌≤◌, Bool, true, false, cond, List, [], ◌∷◌, All, refl, subst}
use Rattle.std.specs.Prelude.{nat_le, Option, Some, None}
use Rattle.std.specs.List.{AllByRecursion}
use Rattle.std.proofs.lemmas.Bool.{eqb-true, cond_both}
use Rattle.std.proofs.lemmas.List.Elements.{All-head, All-tail}
use Rattle.lit_base.specs.Literal.{Literal, IsWithin}
use Rattle.lit_base.specs.declared.trail.Entry.{Entry}
use Rattle.lit_base.specs.declared.name.Name.{Name}
use Rattle.lit_base.specs.Trail.{level_of, level_now, is_free}
use Rattle.lit_base.specs.Backjump.{cut}
use Rattle.lit_base.specs.Rounds.{NamedClause, unit_of, conflict_of, with_unit, with_units, round_by, round, is_last, rounds, propagate}
use Rattle.lit_base.proofs.FixedPoint.{unit_of_all}

-- each literal of the trail is within the variables
abbrev pub IsTrailWithin : ℕ → List Entry → Type 0
IsTrailWithin n trail = AllByRecursion (λ e. IsWithin n e.lit) trail

-- a variable that stands on such a trail is within
pub stands_within : (n v m : ℕ) (trail : List Entry) → IsTrailWithin n trail → level_of trail v ≡ Some m → (1 ≤ v) × (v ≤ n)
stands_within n v m [] within is = cc
stands_within n v m (e ∷ older) within is = by_test (e.lit.variable == v) refl is (stands_within n v m older within.1)
  where
    by_test : (b : Bool) → (e.lit.variable == v) ≡ b → cond b (Some e.level) (level_of older v) ≡ Some m → (level_of older v ≡ Some m → (1 ≤ v) × (v ≤ n)) → (1 ≤ v) × (v ≤ n)
    by_test true here is rest = subst (λ w. (1 ≤ w) × (w ≤ n)) (eqb-true e.lit.variable v here) within.0
    by_test false other is rest = rest is

pub cut_within : (n level : ℕ) (trail : List Entry) → IsTrailWithin n trail → IsTrailWithin n (cut level trail)
cut_within n level [] within = tt
cut_within n level (e ∷ older) within =
    cond_both (nat_le e.level level) (e ∷ older) (cut level older) (IsTrailWithin n) (λ stays. within) (λ leaves. cut_within n level older within.1)

with_unit_within : (n : ℕ) (name : Name) (unit : Option Literal) (trail : List Entry) → ((l : Literal) → unit ≡ Some l → IsWithin n l) → IsTrailWithin n trail →
    IsTrailWithin n (with_unit name unit trail)
with_unit_within n name None trail unit within = within
with_unit_within n name (Some l) trail unit within =
    cond_both (is_free trail l.variable) (record { lit = l; level = level_now trail; reason = Some name } ∷ trail) trail (IsTrailWithin n) (λ free. (unit l refl, within)) (λ taken. within)

with_units_within : (n : ℕ) (snapshot : List Entry) (clauses : List NamedClause) (trail : List Entry) → All (λ c. All (IsWithin n) c.lits) clauses → IsTrailWithin n trail →
    IsTrailWithin n (with_units snapshot clauses trail)
with_units_within n snapshot [] trail all within = within
with_units_within n snapshot (c ∷ others) trail all within =
    with_units_within n snapshot others (with_unit c.name (unit_of snapshot c.lits) trail) (All-tail (λ d. All (IsWithin n) d.lits) c others all)
    (with_unit_within n c.name (unit_of snapshot c.lits) trail
    (λ l is. unit_of_all (IsWithin n) snapshot c.lits l (All-head (λ d. All (IsWithin n) d.lits) c others all) is) within)

round_within : (n : ℕ) (clauses : List NamedClause) (trail : List Entry) (o : Option Name) → All (λ c. All (IsWithin n) c.lits) clauses → IsTrailWithin n trail →
    IsTrailWithin n (round_by clauses trail o).trail
round_within n clauses trail None all within = with_units_within n trail clauses trail all within
round_within n clauses trail (Some name) all within = within

rounds_within : (n most : ℕ) (clauses : List NamedClause) (trail : List Entry) → All (λ c. All (IsWithin n) c.lits) clauses → IsTrailWithin n trail →
    IsTrailWithin n (rounds most clauses trail).trail
rounds_within n zero clauses trail all within = within
rounds_within n (suc most) clauses trail all within =
    let r = round clauses trail in
    let one = round_within n clauses trail (conflict_of trail clauses) all within in
    cond_both (is_last trail r) r (rounds most clauses r.trail) (λ p. IsTrailWithin n p.trail) (λ last. one) (λ more. rounds_within n most clauses r.trail all one)

-- propagation adds literals of the clauses alone
pub propagate_within : (n variables : ℕ) (clauses : List NamedClause) (trail : List Entry) → All (λ c. All (IsWithin n) c.lits) clauses → IsTrailWithin n trail →
    IsTrailWithin n (propagate variables clauses trail).trail
propagate_within n variables clauses trail all within = rounds_within n (variables + 1) clauses trail all within
