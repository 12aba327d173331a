-- Originals that are found by their index, behind clauses that are found by their name.
use Rattle.std.proofs.Common.{◌≡◌, ℕ, ◌<◌, ◌≤◌, ◌==◌, ◌⊎◌, inl, inr, Bool, true, false, cond, ◌&&◌, List, [], ◌∷◌, ◌++◌, length, refl, ap, sym, ◌∙◌, subst, arith}
use Rattle.std.specs.Prelude.{Option, Some, None, option_map, is_some, IsTrue, nat_lt}
use Rattle.std.proofs.lemmas.Bool.{both_ways, and_parts, eqb-true, eq-eqb, ne_eqb, ltb-true, lt-ltb, cases_eq, cond-true, cond-false}
use Rattle.lit_base.specs.Literal.{Literal}
use Rattle.lit_base.specs.Rounds.{original}
use Rattle.lit_base.specs.Named.{same_name}
use Rattle.lit_base.specs.Held.{HeldClause}
use Rattle.lit_base.specs.declared.name.Name.{Name}
use Rattle.lit_base.proofs.HeldClauses.{same_name-true}
use Rattle.clause_pool.specs.Arena.{at_place}
use Rattle.clause_pool.specs.Slots.{row_names, AreApart}
use Rattle.clause_pool.specs.Pooled.{originals_of, is_front}
use Rattle.clause_pool.proofs.ClauseAt.{clause_at, clause_at-no_place, place_at-no_clause}

-- a name that no clause has is that of none of the first and of none of the others
pub none_parts : (rows others : List HeldClause) (n : Name) → clause_at (rows ++ others) n ≡ None → (clause_at rows n ≡ None) × (clause_at others n ≡ None)
none_parts [] others n none = (refl, none)
none_parts (c ∷ rows) others n none = by_test (same_name c.name n) none (none_parts rows others n)
  where
    by_test : (b : Bool) → cond b (Some c) (clause_at (rows ++ others) n) ≡ None → (clause_at (rows ++ others) n ≡ None → (clause_at rows n ≡ None) × (clause_at others n ≡ None)) →
        (cond b (Some c) (clause_at rows n) ≡ None) × (clause_at others n ≡ None)
    by_test true none rest = cc
    by_test false none rest = rest none

-- no name of the first ones stands twice
pub apart_left : (rows others : List HeldClause) → AreApart (row_names (rows ++ others)) → AreApart (row_names rows)
apart_left [] others apart = tt
apart_left (c ∷ rows) others apart =
    (place_at-no_clause rows c.name (none_parts rows others c.name (clause_at-no_place (rows ++ others) c.name apart.0)).0, apart_left rows others apart.1)

-- a name that none of the others has is sought among the first ones
pub clause_at-left : (rows others : List HeldClause) (n : Name) → clause_at others n ≡ None → clause_at (rows ++ others) n ≡ clause_at rows n
clause_at-left [] others n none = none
clause_at-left (c ∷ rows) others n none = ap (λ o. cond (same_name c.name n) (Some c) o) (clause_at-left rows others n none)

some_or_none : {X : Type 0} {o : Option X} {x : X} → o ≡ Some x → o ≡ None → ⊥
some_or_none some none = cc

-- a name that one of the others has is that of none of the first
pub clause_at-right : (rows others : List HeldClause) (n : Name) (d : HeldClause) → AreApart (row_names (rows ++ others)) → clause_at others n ≡ Some d → clause_at (rows ++ others) n ≡ Some d
clause_at-right [] others n d apart is = is
clause_at-right (c ∷ rows) others n d apart is = by_test (same_name c.name n) refl (clause_at-right rows others n d apart.1 is)
  where
    by_test : (b : Bool) → same_name c.name n ≡ b → clause_at (rows ++ others) n ≡ Some d → cond b (Some c) (clause_at (rows ++ others) n) ≡ Some d
    by_test true same later =
        let none : clause_at (rows ++ others) n ≡ None =
        subst (λ m. clause_at (rows ++ others) m ≡ None) (same_name-true c.name n same) (clause_at-no_place (rows ++ others) c.name apart.0) in
        absurd (some_or_none later none)
    by_test false other later = later

-- the original of these literals with this index
abbrev pub original_of : ℕ → List Literal → HeldClause
original_of index lits = record { name = original index; lits = lits; uses = 0 }

pub named_original : (n : Name) (k : ℕ) → n.period ≡ 0 → n.core ≡ 0 → same_name (original k) n ≡ (k == n.index)
named_original n k period core =
    ap (λ p. (0 == p) && ((0 == n.core) && (k == n.index))) period ∙ ap (λ c. (0 == c) && (k == n.index)) core

-- an original stands at its index
front_at : (parts : List (List Literal)) (n : Name) → n.period ≡ 0 → n.core ≡ 0 → clause_at (originals_of parts) n ≡ option_map (original_of n.index) (at_place parts n.index)
front_at [] n period core = refl
front_at (lits ∷ older) n period core =
    ap (λ b. cond b (Some (original_of (length older) lits)) (clause_at (originals_of older) n)) (named_original n (length older) period core)
    ∙ by_case (cases_eq (length older) n.index) (front_at older n period core)
  where
    by_case : (length older ≡ n.index) ⊎ (length older ≡ n.index → ⊥) → clause_at (originals_of older) n ≡ option_map (original_of n.index) (at_place older n.index) →
        cond (length older == n.index) (Some (original_of (length older) lits)) (clause_at (originals_of older) n)
        ≡ option_map (original_of n.index) (cond (n.index == length older) (Some lits) (at_place older n.index))
    by_case (inl here) later =
        cond-true (length older == n.index) (Some (original_of (length older) lits)) (clause_at (originals_of older) n) (eq-eqb (length older) n.index here)
        ∙ (ap (λ k. Some (original_of k lits)) here
        ∙ ap (option_map (original_of n.index)) (sym (cond-true (n.index == length older) (Some lits) (at_place older n.index) (eq-eqb n.index (length older) (sym here)))))
    by_case (inr other) later =
        cond-false (length older == n.index) (Some (original_of (length older) lits)) (clause_at (originals_of older) n) (ne_eqb (length older) n.index other)
        ∙ (later
        ∙ ap (option_map (original_of n.index)) (sym (cond-false (n.index == length older) (Some lits) (at_place older n.index) (ne_eqb n.index (length older) (λ same. other (sym same))))))

-- what the name of one of the first originals is
pub record IsFront (count : ℕ) (n : Name) : Type 0 where
  pub period : n.period ≡ 0
  pub core : n.core ≡ 0
  pub below : n.index < count

pub is_front-true : (count : ℕ) (n : Name) → is_front count n ≡ true → IsFront count n
is_front-true count n front =
    let first = and_parts (n.period == 0) ((n.core == 0) && nat_lt n.index count) front in
    let second = and_parts (n.core == 0) (nat_lt n.index count) first.1 in
    record {
      period = eqb-true n.period 0 first.0;
      core = eqb-true n.core 0 second.0;
      below = ltb-true n.index count second.1;
    }

pub clause_at-front : (parts : List (List Literal)) (n : Name) → is_front (length parts) n ≡ true → clause_at (originals_of parts) n ≡ option_map (original_of n.index) (at_place parts n.index)
clause_at-front parts n front =
    let is = is_front-true (length parts) n front in
    front_at parts n is.period is.core

-- something stands at each place
pub at_place-some : {X : Type 0} (xs : List X) (place : ℕ) → place < length xs → IsTrue (is_some (at_place xs place))
at_place-some [] place inside = let never : ⊥ = omega (arith, inside) in absurd never
at_place-some (x ∷ older) place inside = by_case (cases_eq place (length older)) (at_place-some older place)
  where
    by_case : (place ≡ length older) ⊎ (place ≡ length older → ⊥) → (place < length older → IsTrue (is_some (at_place older place))) →
        IsTrue (is_some (cond (place == length older) (Some x) (at_place older place)))
    by_case (inl here) later = ap is_some (cond-true (place == length older) (Some x) (at_place older place) (eq-eqb place (length older) here))
    by_case (inr other) later =
        let below : place < length older = omega (arith, inside, other) in
        ap is_some (cond-false (place == length older) (Some x) (at_place older place) (ne_eqb place (length older) other)) ∙ later below

front_apart : (count k : ℕ) (n : Name) → k < count → is_front count n ≡ false → same_name (original k) n ≡ false
front_apart count k n below front = by_test (same_name (original k) n) refl
  where
    by_test : (b : Bool) → same_name (original k) n ≡ b → b ≡ false
    by_test true same =
        let is : original k ≡ n = same_name-true (original k) n same in
        let here : is_front count (original k) ≡ true = lt-ltb k count below in
        absurd (both_ways (is_front count n) front (subst (λ m. is_front count m ≡ true) is here))
    by_test false differ = refl

-- any other name is that of no original
none_at : (parts : List (List Literal)) (count : ℕ) (n : Name) → length parts ≤ count → is_front count n ≡ false → clause_at (originals_of parts) n ≡ None
none_at [] count n few front = refl
none_at (lits ∷ older) count n few front =
    cond-false (same_name (original (length older)) n) (Some (original_of (length older) lits)) (clause_at (originals_of older) n) (front_apart count (length older) n (omega (arith, few)) front)
    ∙ none_at older count n (omega (arith, few)) front

pub clause_at-behind : (parts : List (List Literal)) (n : Name) → is_front (length parts) n ≡ false → clause_at (originals_of parts) n ≡ None
clause_at-behind parts n front = none_at parts (length parts) n (omega arith) front

-- an original is pushed where there are no other clauses
pub rows_pushed : (rows : List HeldClause) (parts after : List (List Literal)) (n : Name) (lits : List Literal) → rows ≡ [] → n ≡ original (length parts) → after ≡ lits ∷ parts →
    rows ++ originals_of after ≡ record { name = n; lits = lits; uses = 0 } ∷ (rows ++ originals_of parts)
rows_pushed rows parts after n lits none named is =
    ap (λ others. others ++ originals_of after) none
    ∙ (ap originals_of is
    ∙ (ap (λ m. let c : HeldClause = record { name = m; lits = lits; uses = 0 } in c ∷ originals_of parts) (sym named)
    ∙ ap (λ others. let c : HeldClause = record { name = n; lits = lits; uses = 0 } in c ∷ (others ++ originals_of parts)) (sym none)))
