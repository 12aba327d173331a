-- Lists of nodes in arrays, as one node leaves a list or comes in.
use Rattle.std.proofs.Common.{◌≡◌, ◌≢◌, ℕ, zero, suc, ◌+◌, ◌≤◌, ◌<◌, ◌==◌, Bool, true, false, List, [], ◌∷◌, length, get_or, set, refl, inl, inr, ap, sym, ◌∙◌, subst, arith}
use Rattle.std.specs.Prelude.{if◌then◌else◌, ◌⊎◌}
use Rattle.std.proofs.lemmas.Bool.{cases_eq, eqb-false, ne_eqb, eq-eqb}
use Rattle.std.proofs.lemmas.List.{length-set, get_or-set_same, get_or-set_other}
use Rattle.std.proofs.lemmas.List.{get_or-map, length-map, map-set}
use Rattle.std.proofs.lemmas.Grind.{get_or_default_zero}
use Rattle.lit_base.specs.Literal.{Literal}
use Rattle.round_prop.specs.declared.node.Node.{Node}
use Rattle.round_prop.specs.Chains.{no_node, nexts_of, IsChain, list_at, times_in, times, total, AreLists}

none_by : (b : Bool) (k : ℕ) → (if b then 1 else 0) + k ≡ 0 → (b ≡ false) × (k ≡ 0)
none_by true k is = absurd (omega (arith, is))
none_by false k is = (refl, omega (arith, is))

-- a chain doesn't see a change behind a node that it lacks
pub chain-set : (nexts : List ℕ) (at : ℕ) (nodes : List ℕ) (n x : ℕ) → times_in n nodes ≡ 0 → IsChain nexts at nodes → IsChain (set nexts n x) at nodes
chain-set nexts at [] n x none chain = chain
chain-set nexts at (m ∷ later) n x none chain =
    let parts = none_by (m == n) (times_in n later) none in
    let other : m ≢ n = eqb-false m n parts.0 in
    let inside : m < length (set nexts n x) = omega (arith, length-set nexts n x, chain.1) in (
      chain.0,
      inside,
      subst (λ next. IsChain (set nexts n x) next later) (sym (get_or-set_other nexts n m x 0 other)) (chain-set nexts (get_or nexts m 0) later n x parts.1 chain.2),
    )

-- one list is changed
pub times-set : (n : ℕ) (lists : List (List ℕ)) (p : ℕ) (nodes : List ℕ) → p < length lists →
    times n (set lists p nodes) + times_in n (list_at lists p) ≡ times n lists + times_in n nodes
times-set n [] p nodes inside = absurd (omega (arith, inside))
times-set n (first ∷ later) zero nodes inside = omega arith
times-set n (first ∷ later) (suc p) nodes inside = let rest = times-set n later p nodes (omega (arith, inside)) in omega (arith, rest)

pub total-set : (lists : List (List ℕ)) (p : ℕ) (nodes : List ℕ) → p < length lists → total (set lists p nodes) + length (list_at lists p) ≡ total lists + length nodes
total-set [] p nodes inside = absurd (omega (arith, inside))
total-set (first ∷ later) zero nodes inside = omega arith
total-set (first ∷ later) (suc p) nodes inside = let rest = total-set later p nodes (omega (arith, inside)) in omega (arith, rest)

-- a list is a part of all
pub times_one : (n : ℕ) (lists : List (List ℕ)) (p : ℕ) → times_in n (list_at lists p) ≤ times n lists
times_one n [] p = omega arith
times_one n (first ∷ later) zero = omega arith
times_one n (first ∷ later) (suc p) = let rest = times_one n later p in omega (arith, rest)

pub total_one : (lists : List (List ℕ)) (p : ℕ) → length (list_at lists p) ≤ total lists
total_one [] p = omega arith
total_one (first ∷ later) zero = omega arith
total_one (first ∷ later) (suc p) = let rest = total_one later p in omega (arith, rest)

-- what stands in one list stands in no other
pub times_two : (n : ℕ) (lists : List (List ℕ)) (p q : ℕ) → p ≢ q → times_in n (list_at lists p) + times_in n (list_at lists q) ≤ times n lists
times_two n [] p q apart = omega arith
times_two n (first ∷ later) zero zero apart = absurd (apart refl)
times_two n (first ∷ later) zero (suc q) apart = let rest = times_one n later q in omega (arith, rest)
times_two n (first ∷ later) (suc p) zero apart = let rest = times_one n later p in omega (arith, rest)
times_two n (first ∷ later) (suc p) (suc q) apart = let rest = times_two n later p q (λ same. apart (ap suc same)) in omega (arith, rest)

pub first_once : (n : ℕ) (later : List ℕ) → times_in n (n ∷ later) ≡ 1 + times_in n later
first_once n later = ap (λ b. (if b then 1 else 0) + times_in n later) (eq-eqb n n refl)

-- a list after one of them was changed
pub list_at-set : (lists : List (List ℕ)) (p q : ℕ) (nodes : List ℕ) → p < length lists → ((q ≡ p) × (list_at (set lists p nodes) q ≡ nodes)) ⊎ ((q ≢ p) × (list_at (set lists p nodes) q ≡ list_at lists q))
list_at-set lists p q nodes inside = by_case (cases_eq q p)
  where
    by_case : (q ≡ p) ⊎ (q ≢ p) → ((q ≡ p) × (list_at (set lists p nodes) q ≡ nodes)) ⊎ ((q ≢ p) × (list_at (set lists p nodes) q ≡ list_at lists q))
    by_case (inl is) = inl (is, ap (λ r. list_at (set lists p nodes) r) is ∙ get_or-set_same lists p nodes [] inside)
    by_case (inr other) = inr (other, get_or-set_other lists p q nodes [] other)

-- the same of heads
pub head-set : (heads : List ℕ) (p q x : ℕ) → p < length heads → ((q ≡ p) × (get_or (set heads p x) q 0 ≡ x)) ⊎ ((q ≢ p) × (get_or (set heads p x) q 0 ≡ get_or heads q 0))
head-set heads p q x inside = by_case (cases_eq q p)
  where
    by_case : (q ≡ p) ⊎ (q ≢ p) → ((q ≡ p) × (get_or (set heads p x) q 0 ≡ x)) ⊎ ((q ≢ p) × (get_or (set heads p x) q 0 ≡ get_or heads q 0))
    by_case (inl is) = inl (is, ap (λ r. get_or (set heads p x) r 0) is ∙ get_or-set_same heads p x 0 inside)
    by_case (inr other) = inr (other, get_or-set_other heads p q x 0 other)

-- where a list begins at a node it is that node and others
pub list_begins : (nexts : List ℕ) (at : ℕ) (nodes : List ℕ) → length nexts ≤ no_node → at < length nexts → IsChain nexts at nodes →
    (later : List ℕ) × ((nodes ≡ at ∷ later) × IsChain nexts (get_or nexts at 0) later)
list_begins nexts at [] few inside chain = absurd (omega (arith, few, inside, chain))
list_begins nexts at (n ∷ later) few inside chain = (later, (ap (λ m. m ∷ later) (sym chain.0), subst (λ m. IsChain nexts (get_or nexts m 0) later) (sym chain.0) chain.2))

-- and where it begins at none it is empty
pub list_empty : (nexts : List ℕ) (at : ℕ) (nodes : List ℕ) → length nexts ≤ at → IsChain nexts at nodes → nodes ≡ []
list_empty nexts at [] past chain = refl
list_empty nexts at (n ∷ later) past chain = absurd (omega (arith, past, chain.0, chain.1))

-- the first node of a list leaves
pub lists_popped : (heads nexts : List ℕ) (lists : List (List ℕ)) (p n : ℕ) (later : List ℕ) → AreLists heads nexts lists → p < length heads → list_at lists p ≡ n ∷ later →
    AreLists (set heads p (get_or nexts n 0)) nexts (set lists p later)
lists_popped heads nexts lists p n later are inside is =
    let within : p < length lists = omega (arith, are.long, inside) in
    record {
      long = omega (arith, length-set heads p (get_or nexts n 0), length-set lists p later, are.long);
      few = are.few;
      chains = λ q low. at_list q (omega (arith, low, length-set heads p (get_or nexts n 0))) (head-set heads p q (get_or nexts n 0) inside) (list_at-set lists p q later within);
      once = λ m. less m (times-set m lists p later within) (ap (λ nodes. times_in m nodes) is) (are.once m);
    }
  where
    here : IsChain nexts (get_or heads p 0) (n ∷ later)
    here = subst (λ nodes. IsChain nexts (get_or heads p 0) nodes) is (are.chains p inside)

    at_list : (q : ℕ) → q < length heads → ((q ≡ p) × (get_or (set heads p (get_or nexts n 0)) q 0 ≡ get_or nexts n 0)) ⊎ ((q ≢ p) × (get_or (set heads p (get_or nexts n 0)) q 0 ≡ get_or heads q 0)) →
        ((q ≡ p) × (list_at (set lists p later) q ≡ later)) ⊎ ((q ≢ p) × (list_at (set lists p later) q ≡ list_at lists q)) →
        IsChain nexts (get_or (set heads p (get_or nexts n 0)) q 0) (list_at (set lists p later) q)
    at_list q low (inl h) (inl l) = subst (λ at. IsChain nexts at (list_at (set lists p later) q)) (sym h.1) (subst (λ nodes. IsChain nexts (get_or nexts n 0) nodes) (sym l.1) here.2)
    at_list q low (inl h) (inr l) = absurd (l.0 h.0)
    at_list q low (inr h) (inl l) = absurd (h.0 l.0)
    at_list q low (inr h) (inr l) = subst (λ at. IsChain nexts at (list_at (set lists p later) q)) (sym h.1) (subst (λ nodes. IsChain nexts (get_or heads q 0) nodes) (sym l.1) (are.chains q low))

    less : (m : ℕ) → times m (set lists p later) + times_in m (list_at lists p) ≡ times m lists + times_in m later → times_in m (list_at lists p) ≡ times_in m (n ∷ later) →
        times m lists ≤ 1 → times m (set lists p later) ≤ 1
    less m sums front once = omega (arith, sums, front, once)

-- a node that stands in no list comes into one
pub lists_pushed : (heads nexts : List ℕ) (lists : List (List ℕ)) (p n : ℕ) → AreLists heads nexts lists → p < length heads → n < length nexts → times n lists ≡ 0 →
    AreLists (set heads p n) (set nexts n (get_or heads p 0)) (set lists p (n ∷ list_at lists p))
lists_pushed heads nexts lists p n are inside low absent =
    let within : p < length lists = omega (arith, are.long, inside) in
    record {
      long = omega (arith, length-set heads p n, length-set lists p (n ∷ list_at lists p), are.long);
      few = omega (arith, length-set nexts n (get_or heads p 0), are.few);
      chains = λ q small. at_list q (omega (arith, small, length-set heads p n)) (head-set heads p q n inside) (list_at-set lists p q (n ∷ list_at lists p) within);
      once = λ m. more m (times-set m lists p (n ∷ list_at lists p) within) (cases_eq n m) (are.once m);
    }
  where
    nexts-new : List ℕ
    nexts-new = set nexts n (get_or heads p 0)

    kept : (q : ℕ) → q < length heads → IsChain nexts-new (get_or heads q 0) (list_at lists q)
    kept q small = let none : times_in n (list_at lists q) ≡ 0 = omega (arith, times_one n lists q, absent) in
        chain-set nexts (get_or heads q 0) (list_at lists q) n (get_or heads p 0) none (are.chains q small)

    at_list : (q : ℕ) → q < length heads → ((q ≡ p) × (get_or (set heads p n) q 0 ≡ n)) ⊎ ((q ≢ p) × (get_or (set heads p n) q 0 ≡ get_or heads q 0)) →
        ((q ≡ p) × (list_at (set lists p (n ∷ list_at lists p)) q ≡ n ∷ list_at lists p)) ⊎ ((q ≢ p) × (list_at (set lists p (n ∷ list_at lists p)) q ≡ list_at lists q)) →
        IsChain nexts-new (get_or (set heads p n) q 0) (list_at (set lists p (n ∷ list_at lists p)) q)
    at_list q small (inl h) (inl l) =
        let inside_new : n < length nexts-new = omega (arith, length-set nexts n (get_or heads p 0), low) in
        let rest : IsChain nexts-new (get_or nexts-new n 0) (list_at lists p) =
        subst (λ at. IsChain nexts-new at (list_at lists p)) (sym (get_or-set_same nexts n (get_or heads p 0) 0 low)) (kept p inside) in
        subst (λ nodes. IsChain nexts-new (get_or (set heads p n) q 0) nodes) (sym l.1) (h.1, inside_new, rest)
    at_list q small (inl h) (inr l) = absurd (l.0 h.0)
    at_list q small (inr h) (inl l) = absurd (h.0 l.0)
    at_list q small (inr h) (inr l) = subst (λ at. IsChain nexts-new at (list_at (set lists p (n ∷ list_at lists p)) q)) (sym h.1) (subst (λ nodes. IsChain nexts-new (get_or heads q 0) nodes) (sym l.1) (kept q small))

    more : (m : ℕ) → times m (set lists p (n ∷ list_at lists p)) + times_in m (list_at lists p) ≡ times m lists + times_in m (n ∷ list_at lists p) → (n ≡ m) ⊎ (n ≢ m) →
        times m lists ≤ 1 → times m (set lists p (n ∷ list_at lists p)) ≤ 1
    more m sums (inl is) once =
        let none : times m lists ≡ 0 = ap (λ k. times k lists) (sym is) ∙ absent in
        let one : times_in m (n ∷ list_at lists p) ≡ 1 + times_in m (list_at lists p) = ap (λ k. times_in m (k ∷ list_at lists p)) is ∙ first_once m (list_at lists p) in
        omega (arith, sums, none, one)
    more m sums (inr other) once =
        let same : times_in m (n ∷ list_at lists p) ≡ 0 + times_in m (list_at lists p) = ap (λ b. (if b then 1 else 0) + times_in m (list_at lists p)) (ne_eqb n m other) in
        omega (arith, sums, same, once)

-- what was read by an index, whatever stands for the rest
pub at_zero : (xs : List ℕ) (i x : ℕ) → i < length xs → x ≡ get_or xs i x → get_or xs i 0 ≡ x
at_zero xs i x inside is = sym (get_or_default_zero xs i x inside) ∙ sym is

pub next_read : (nodes : List Node) (n : ℕ) (node : Node) → n < length nodes → node ≡ get_or nodes n node → get_or (nexts_of nodes) n 0 ≡ node.next
next_read nodes n node inside is = get_or-map (λ (m : Node). m.next) nodes n node 0 inside ∙ ap (λ (m : Node). m.next) (sym is)

-- the same step, of what was read
pub pushed_read : (heads : List ℕ) (nodes : List Node) (lists : List (List ℕ)) (p n next : ℕ) (l : Literal) → p < length heads → n < length nodes → next ≡ get_or heads p next →
    AreLists heads (nexts_of nodes) lists → times n lists ≡ 0 →
    AreLists (set heads p n) (nexts_of (set nodes n (record { next = next; lit = l }))) (set lists p (n ∷ list_at lists p))
pushed_read heads nodes lists p n next l inside low is are absent =
    let node : Node = record { next = next; lit = l } in
    let step = lists_pushed heads (nexts_of nodes) lists p n are inside (omega (arith, low, length-map nodes (λ (m : Node). m.next))) absent in
    subst (λ nexts. AreLists (set heads p n) nexts (set lists p (n ∷ list_at lists p)))
    (ap (λ x. set (nexts_of nodes) n x) (at_zero heads p next inside is) ∙ sym (map-set (λ (m : Node). m.next) nodes n node)) step
