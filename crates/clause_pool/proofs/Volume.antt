-- The number of lemmas among the held clauses.
use Rattle.std.proofs.Common.{◌≡◌, ℕ, ◌+◌, ◌≤◌, Bool, true, false, not, cond, List, [], ◌∷◌, ◌++◌, length, refl, arith}
use Rattle.std.specs.Prelude.{filter}
use Rattle.std.proofs.lemmas.Bool.{cond_both}
use Rattle.lit_base.specs.Literal.{Literal}
use Rattle.lit_base.specs.Held.{HeldClause, is_before, is_original, with_clause, volume_of}
use Rattle.clause_pool.specs.Pooled.{held_of, originals_of}

-- what a clause counts: an original nothing, a lemma one
abbrev pub weight_of : Bool → ℕ
weight_of original = cond original 0 1

length-first : (b : Bool) (c : HeldClause) (held : List HeldClause) → length (cond (not b) (c ∷ held) held) ≡ length held + weight_of b
length-first true c held = omega arith
length-first false c held = omega arith

-- the first clause counts its weight
pub volume_of-cons : (c : HeldClause) (held : List HeldClause) → volume_of (c ∷ held) ≡ volume_of held + weight_of (is_original c.name)
volume_of-cons c held = length-first (is_original c.name) c (filter (λ d. not (is_original d.name)) held)

-- so does a clause that is added
pub volume_of-with : (c : HeldClause) (held : List HeldClause) → volume_of (with_clause c held) ≡ volume_of held + weight_of (is_original c.name)
volume_of-with c [] = volume_of-cons c []
volume_of-with c (d ∷ later) =
    cond_both (is_before c.name d.name) (c ∷ d ∷ later) (d ∷ with_clause c later)
    (λ held. volume_of held ≡ volume_of (d ∷ later) + weight_of (is_original c.name))
    (λ before. volume_of-cons c (d ∷ later))
    (λ after.
    let one = volume_of-cons d (with_clause c later) in
    let other = volume_of-cons d later in
    let rest = volume_of-with c later in
    omega arith)

-- a clause counts at most one
pub weight-le : (b : Bool) → weight_of b ≤ 1
weight-le true = omega arith
weight-le false = omega arith

-- there are at most as many lemmas as clauses
pub volume_of-le : (rows : List HeldClause) → volume_of rows ≤ length rows
volume_of-le [] = omega arith
volume_of-le (c ∷ older) =
    let rest = volume_of-le older in
    let one = volume_of-cons c older in
    let weight = weight-le (is_original c.name) in
    omega arith

-- in order they are as many
pub volume_of-held_of : (rows : List HeldClause) → volume_of (held_of rows) ≡ volume_of rows
volume_of-held_of [] = refl
volume_of-held_of (c ∷ older) =
    let rest = volume_of-held_of older in
    let one = volume_of-cons c older in
    let with = volume_of-with c (held_of older) in
    omega arith

-- originals count nothing
volume_of-originals : (parts : List (List Literal)) → volume_of (originals_of parts) ≡ 0
volume_of-originals [] = refl
volume_of-originals (lits ∷ older) = volume_of-originals older

pub volume_of-append : (rows : List HeldClause) (parts : List (List Literal)) → volume_of (rows ++ originals_of parts) ≡ volume_of rows
volume_of-append [] parts = volume_of-originals parts
volume_of-append (c ∷ older) parts =
    let rest = volume_of-append older parts in
    let one = volume_of-cons c older in
    let all = volume_of-cons c (older ++ originals_of parts) in
    omega arith
