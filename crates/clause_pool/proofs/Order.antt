-- The held clauses stand by rising names.
use Rattle.std.proofs.Common.{◌≡◌, ℕ, Bool, true, false, ◌&&◌, ◌||◌, ◌==◌, List, [], ◌∷◌, arith}
use Rattle.std.specs.Prelude.{None, nat_lt, IsTrue}
use Rattle.std.specs.List.{AllByRecursion}
use Rattle.std.proofs.lemmas.Bool.{cond_both}
use Rattle.lit_base.specs.Named.{same_name, lits_at}
use Rattle.lit_base.specs.Held.{HeldClause, clause_of, clauses_of, is_before, with_clause}
use Rattle.lit_base.specs.declared.name.Name.{Name}
use Rattle.lit_base.proofs.HeldClauses.{lits_at-none, found-with}
use Rattle.clause_pool.specs.Slots.{row_names, AreApart}
use Rattle.clause_pool.specs.Pooled.{held_of}
use Rattle.clause_pool.proofs.ClauseAt.{lits_at-no_place}
use Rattle.clause_pool.specs.Rising.{AreRising, IsOrdered}

-- numbers are compared first, and the rest where they are equal: both orders are transitive
parts-trans : (p q r : ℕ) (x y z : Bool) → (x ≡ true → y ≡ true → z ≡ true) → (nat_lt p q || ((p == q) && x)) ≡ true → (nat_lt q r || ((q == r) && y)) ≡ true →
    (nat_lt p r || ((p == r) && z)) ≡ true
parts-trans p q r x y z rest first second = grind arith

lt-trans : (p q r : ℕ) → nat_lt p q ≡ true → nat_lt q r ≡ true → nat_lt p r ≡ true
lt-trans p q r first second = grind arith

-- the order of names is transitive
pub is_before-trans : (a b c : Name) → is_before a b ≡ true → is_before b c ≡ true → is_before a c ≡ true
is_before-trans a b c first second =
    parts-trans a.period b.period c.period (nat_lt a.core b.core || ((a.core == b.core) && nat_lt a.index b.index))
    (nat_lt b.core c.core || ((b.core == c.core) && nat_lt b.index c.index)) (nat_lt a.core c.core || ((a.core == c.core) && nat_lt a.index c.index))
    (parts-trans a.core b.core c.core (nat_lt a.index b.index) (nat_lt b.index c.index) (nat_lt a.index c.index) (lt-trans a.index b.index c.index))
    first second

-- of two different names one is before the other
pub is_before-other : (a b : Name) → is_before a b ≡ false → same_name b a ≡ false → is_before b a ≡ true
is_before-other a b after apart = grind arith

-- the name is before all of these
abbrev pub IsFirst : Name → List HeldClause → Type 0
IsFirst name held = AllByRecursion (λ d. IsTrue (is_before name d.name)) held

-- a name before the first of them is before all
pub first-trans : (a b : Name) (held : List HeldClause) → is_before a b ≡ true → IsFirst b held → IsFirst a held
first-trans a b [] before first = tt
first-trans a b (d ∷ later) before first = (is_before-trans a b d.name before first.0, first-trans a b later before first.1)

-- what is before all of them and before one more is before all with it
first-with : (a : Name) (c : HeldClause) (held : List HeldClause) → is_before a c.name ≡ true → IsFirst a held → IsFirst a (with_clause c held)
first-with a c [] before first = (before, tt)
first-with a c (d ∷ later) before first =
    cond_both (is_before c.name d.name) (c ∷ d ∷ later) (d ∷ with_clause c later) (λ held. IsFirst a held)
    (λ t. (before, first)) (λ f. (first.0, first-with a c later before first.1))

-- a clause of a new name keeps the order
pub rising-with : (c : HeldClause) (held : List HeldClause) → lits_at (clauses_of held) c.name ≡ None → AreRising held → AreRising (with_clause c held)
rising-with c [] free rising = (tt, tt)
rising-with c (d ∷ later) free rising =
    let apart = lits_at-none (clause_of d) (clauses_of later) c.name free in
    cond_both (is_before c.name d.name) (c ∷ d ∷ later) (d ∷ with_clause c later) AreRising
    (λ before. ((before, first-trans c.name d.name later before rising.0), rising))
    (λ after. (first-with d.name c later (is_before-other c.name d.name after apart.0) rising.0, rising-with c later apart.1 rising.1))

-- clauses of distinct names stand in order
pub ordered-held_of : (rows : List HeldClause) → AreApart (row_names rows) → IsOrdered (held_of rows)
ordered-held_of [] apart = record { rising = tt; found = tt }
ordered-held_of (c ∷ older) apart =
    let later = ordered-held_of older apart.1 in
    let free = lits_at-no_place older c.name apart.1 apart.0 in
    record {
      rising = rising-with c (held_of older) free later.rising;
      found = found-with c (held_of older) free later.found;
    }
