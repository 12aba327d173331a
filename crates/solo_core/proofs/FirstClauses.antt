-- The clauses of a formula, held and attached one by one.
use Rattle.std.proofs.Common.{◌≡◌, ℕ, ◌+◌, ◌<◌, ◌≤◌, List, [], ◌∷◌, ◌++◌, length, map, get_or, take, refl, ap, sym, ◌∙◌, arith}
use Rattle.std.specs.Prelude.{Some, None}
use Rattle.std.proofs.lemmas.Bool.{cond-false, le-ltb, ne_eqb}
use Rattle.std.proofs.lemmas.List.{take_more, length-take-le}
use Rattle.lit_base.specs.Literal.{Literal}
use Rattle.lit_base.specs.Rounds.{NamedClause, original, named_from}
use Rattle.lit_base.specs.Named.{same_name, lits_at}
use Rattle.lit_base.specs.Held.{HeldClause, clauses_of, is_before, unused, with_clause}
use Rattle.lit_base.proofs.HeldClauses.{lits_at-cons}
use Rattle.solo_core.specs.Searching.{AreFewUses}

-- an original clause that is held, without uses
abbrev pub held_original : ℕ → List Literal → HeldClause
held_original index lits = unused (record { name = original index; lits = lits })

-- the originals before this index, held
abbrev pub held_from : ℕ → List (List Literal) → List HeldClause
held_from first clauses = map unused (named_from first clauses)

-- the next original goes to the end
held_from-next : (clauses : List (List Literal)) (first : ℕ) (lits : List Literal) →
    with_clause (held_original (first + length clauses) lits) (held_from first clauses) ≡ held_from first (clauses ++ lits ∷ [])
held_from-next [] first lits = ap (λ index. held_original index lits ∷ []) (let e : first + 0 ≡ first = omega arith in e)
held_from-next (c ∷ others) first lits =
    let next = held_original (first + length (c ∷ others)) lits in
    cond-false (is_before next.name (original first)) (next ∷ held_from first (c ∷ others)) (held_original first c ∷ with_clause next (held_from (first + 1) others))
    (le-ltb (first + length (c ∷ others)) first (omega arith))
    ∙ ap (λ later. held_original first c ∷ later)
    (ap (λ index. with_clause (held_original index lits) (held_from (first + 1) others)) (let e : first + length (c ∷ others) ≡ first + 1 + length others = omega arith in e)
    ∙ held_from-next others (first + 1) lits)

-- no original has an index past those that are held
held_from-past : (clauses : List (List Literal)) (first index : ℕ) → first + length clauses ≤ index → lits_at (clauses_of (held_from first clauses)) (original index) ≡ None
held_from-past [] first index past = refl
held_from-past (c ∷ others) first index past =
    lits_at-cons (record { name = original first; lits = c }) (clauses_of (held_from (first + 1) others)) (original index)
    ∙ (cond-false (same_name (original first) (original index)) (Some c) (lits_at (clauses_of (held_from (first + 1) others)) (original index)) (ne_eqb first index (λ is. omega arith))
    ∙ held_from-past others (first + 1) index (omega arith))

-- the first clauses of a formula with the next one
pub held_from-more : (clauses : List (List Literal)) (index : ℕ) (lits : List Literal) → index < length clauses → lits ≡ get_or clauses index lits →
    with_clause (held_original index lits) (held_from 0 (take index clauses)) ≡ held_from 0 (take (index + 1) clauses)
held_from-more clauses index lits within is =
    let before = take index clauses in
    let size : length before ≡ index = length-take-le index clauses (omega arith) in
    ap (λ n. with_clause (held_original n lits) (held_from 0 before)) (let e : index ≡ 0 + length before = omega arith in e)
    ∙ (held_from-next before 0 lits ∙ ap (held_from 0) (ap (λ c. before ++ c ∷ []) is ∙ sym (take_more clauses index lits within)))

-- the name of the next one is free
pub held_from-free : (clauses : List (List Literal)) (index : ℕ) → index < length clauses → lits_at (clauses_of (held_from 0 (take index clauses))) (original index) ≡ None
held_from-free clauses index within =
    let size : length (take index clauses) ≡ index = length-take-le index clauses (omega arith) in held_from-past (take index clauses) 0 index (omega arith)

-- clauses without uses have few
pub few_uses-unused : (clauses : List NamedClause) → AreFewUses 0 (map unused clauses)
few_uses-unused [] = tt
few_uses-unused (c ∷ others) = (omega arith, few_uses-unused others)
