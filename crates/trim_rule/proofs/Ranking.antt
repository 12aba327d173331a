-- Which of two clauses goes first is an order in which no two tie.
use Rattle.std.proofs.Common.{◌≡◌, ℕ, ◌==◌, Bool, true, false, ◌&&◌, ◌||◌, sym, arith}
use Rattle.std.specs.Prelude.{nat_lt}
use Rattle.std.specs.Cmp.{IsStrictWeakOrder}
use Rattle.std.proofs.lemmas.Bool.{both_ways, true_from_ne_false}
use Rattle.std.proofs.lemmas.Bool.Decides.{nat_tests}
use Rattle.lit_base.specs.Named.{same_name}
use Rattle.lit_base.specs.Held.{is_before}
use Rattle.lit_base.specs.declared.name.Name.{Name}
use Rattle.lit_base.proofs.HeldClauses.{same_name-true}
use Rattle.lit_base.proofs.NameOrder.{not_before}
use Rattle.clause_pool.specs.declared.tally.Tally.{Tally}
use Rattle.clause_pool.proofs.Order.{is_before-other}
use Rattle.trim_rule.specs.Reduction.{goes_before}

-- numbers are compared first, and the rest where they are equal
one_way_by : (p q : ℕ) (x y : Bool) → (x ≡ true → y ≡ false) → (nat_lt p q || ((p == q) && x)) ≡ true → (nat_lt q p || ((q == p) && y)) ≡ false
one_way_by p q x y rest before = grind (arith, nat_tests)

chain_by : (p q r : ℕ) (x y z : Bool) → (x ≡ false → y ≡ false → z ≡ false) → (nat_lt p q || ((p == q) && x)) ≡ false → (nat_lt q r || ((q == r) && y)) ≡ false →
    (nat_lt p r || ((p == r) && z)) ≡ false
chain_by p q r x y z rest first second = grind (arith, nat_tests)

lt-chain : (p q r : ℕ) → nat_lt p q ≡ false → nat_lt q r ≡ false → nat_lt p r ≡ false
lt-chain p q r first second = grind (arith, nat_tests)

equal_by : (p q : ℕ) (x y : Bool) → (nat_lt p q || ((p == q) && x)) ≡ false → (nat_lt q p || ((q == p) && y)) ≡ false → p ≡ q
equal_by p q x y first second = grind (arith, nat_tests)

rest_by : (p q : ℕ) (x y : Bool) → (nat_lt p q || ((p == q) && x)) ≡ false → (nat_lt q p || ((q == p) && y)) ≡ false → x ≡ false
rest_by p q x y first second = grind (arith, nat_tests)

before-chain : (a b c : Name) → is_before a b ≡ false → is_before b c ≡ false → is_before a c ≡ false
before-chain a b c =
    chain_by a.period b.period c.period (nat_lt a.core b.core || ((a.core == b.core) && nat_lt a.index b.index))
    (nat_lt b.core c.core || ((b.core == c.core) && nat_lt b.index c.index)) (nat_lt a.core c.core || ((a.core == c.core) && nat_lt a.index c.index))
    (chain_by a.core b.core c.core (nat_lt a.index b.index) (nat_lt b.index c.index) (nat_lt a.index c.index) (lt-chain a.index b.index c.index))

-- names of which none is before the other are one
same_by_order : (a b : Name) → is_before a b ≡ false → is_before b a ≡ false → a ≡ b
same_by_order a b first second =
    sym (same_name-true b a (true_from_ne_false (same_name b a) (λ apart. both_ways (is_before b a) second (is_before-other a b first apart))))

-- what is compared after the uses
abbrev by_size : Tally → Tally → Bool
by_size a b = nat_lt b.size a.size || ((b.size == a.size) && is_before a.name b.name)

size-chain : (a b c : Tally) → by_size a b ≡ false → by_size b c ≡ false → by_size a c ≡ false
size-chain a b c first second =
    chain_by c.size b.size a.size (is_before b.name c.name) (is_before a.name b.name) (is_before a.name c.name) (λ later sooner. before-chain a.name b.name c.name sooner later) second first

-- it is an order
pub ranks : IsStrictWeakOrder goes_before
ranks = record {
  one_way = λ a b. one_way_by a.uses b.uses (by_size a b) (by_size b a) (one_way_by b.size a.size (is_before a.name b.name) (is_before b.name a.name) (not_before a.name b.name));
  chain = λ a b c. chain_by a.uses b.uses c.uses (by_size a b) (by_size b c) (by_size a c) (size-chain a b c);
}

tally_at : (a p : Name) (b c q r : ℕ) → a ≡ p → b ≡ q → c ≡ r → (let t : Tally = record { name = a; size = b; uses = c } in t) ≡ record { name = p; size = q; uses = r }
tally_at a p b c q r name size uses = cc

-- clauses of which none goes first are one
pub exact : (a b : Tally) → goes_before a b ≡ false → goes_before b a ≡ false → a ≡ b
exact a b first second =
    let uses = equal_by a.uses b.uses (by_size a b) (by_size b a) first second in
    let left : by_size a b ≡ false = rest_by a.uses b.uses (by_size a b) (by_size b a) first second in
    let right : by_size b a ≡ false = rest_by b.uses a.uses (by_size b a) (by_size a b) second first in
    let size = equal_by b.size a.size (is_before a.name b.name) (is_before b.name a.name) left right in
    let name = same_by_order a.name b.name (rest_by b.size a.size (is_before a.name b.name) (is_before b.name a.name) left right)
    (rest_by a.size b.size (is_before b.name a.name) (is_before a.name b.name) right left) in
    tally_at a.name b.name a.size a.uses b.size b.uses name (sym size) uses
