-- The order of names, and clauses that stand by rising names.
use Rattle.std.proofs.Common.{◌≡◌, ℕ, ◌==◌, true, false, ◌&&◌, ◌||◌, List, [], ◌∷◌, ◌∙◌, subst, arith}
use Rattle.std.specs.Prelude.{Some, nat_lt}
use Rattle.std.specs.List.{AllByRecursion}
use Rattle.std.proofs.lemmas.Bool.{cond-true, cond-false, both_ways, false_from_ne_true}
use Rattle.std.proofs.lemmas.Bool.Decides.{nat_tests}
use Rattle.lit_base.specs.Rounds.{NamedClause}
use Rattle.lit_base.specs.Named.{same_name, lits_at}
use Rattle.lit_base.specs.Held.{is_before, AreRisingBy}
use Rattle.lit_base.specs.Fits.{FindsAll}
use Rattle.lit_base.specs.declared.name.Name.{Name}
use Rattle.lit_base.proofs.HeldClauses.{same_name-itself, same_name-true, lits_at-cons}

-- no name is before itself
pub not_before_itself : (a : Name) → is_before a a ≡ false
not_before_itself a = by_parts a.period a.core a.index
  where
    by_parts : (p q r : ℕ) → (nat_lt p p || ((p == p) && (nat_lt q q || ((q == q) && nat_lt r r)))) ≡ false
    by_parts p q r = grind (arith, nat_tests)

-- of two names one at the most is before the other
pub not_before : (a b : Name) → is_before a b ≡ true → is_before b a ≡ false
not_before a b = by_parts a.period a.core a.index b.period b.core b.index
  where
    by_parts : (p q r x y z : ℕ) → (nat_lt p x || ((p == x) && (nat_lt q y || ((q == y) && nat_lt r z)))) ≡ true →
        (nat_lt x p || ((x == p) && (nat_lt y q || ((y == q) && nat_lt z r)))) ≡ false
    by_parts p q r x y z before = grind (arith, nat_tests)

-- a name before another is another one
pub before_differs : (a b : Name) → is_before a b ≡ true → same_name a b ≡ false
before_differs a b before =
    false_from_ne_true (same_name a b) (λ is. both_ways (is_before a b) (subst (λ n. is_before a n ≡ false) (same_name-true a b is) (not_before_itself a)) before)

-- what is found among later clauses is found with one more in front, of a lesser name
found_later : (c : NamedClause) (all : List NamedClause) (later : List NamedClause) → AllByRecursion (λ d. is_before c.name d.name ≡ true) later → FindsAll (lits_at all) later →
    FindsAll (lits_at (c ∷ all)) later
found_later c all [] before found = tt
found_later c all (d ∷ later) before found = (
  lits_at-cons c all d.name ∙ (cond-false (same_name c.name d.name) (Some c.lits) (lits_at all d.name) (before_differs c.name d.name before.0) ∙ found.0),
  found_later c all later before.1 found.1,
)

-- each of the clauses is found under its name
pub rising_found : (clauses : List NamedClause) → AreRisingBy (λ (c : NamedClause). c.name) clauses → FindsAll (lits_at clauses) clauses
rising_found [] rising = tt
rising_found (c ∷ later) rising = (
  lits_at-cons c later c.name ∙ cond-true (same_name c.name c.name) (Some c.lits) (lits_at later c.name) (same_name-itself c.name),
  found_later c later later rising.0 (rising_found later rising.1),
)
