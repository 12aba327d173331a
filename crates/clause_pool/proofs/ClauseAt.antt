-- Finding a held clause by its name, whole: its literals and its uses.
use Rattle.std.proofs.Common.{◌≡◌, ℕ, ◌<◌, ◌==◌, Bool, true, false, cond, List, [], ◌∷◌, length, refl, ap, sym, ◌∙◌, subst, arith}
use Rattle.std.specs.Prelude.{Option, Some, None, option_map, find}
use Rattle.std.proofs.lemmas.Bool.{cond_both, cond-true, cond-false, eq-eqb, ne_eqb}
use Rattle.std.proofs.lemmas.Option.{same_Some}
use Rattle.std.proofs.lemmas.List.{length-map}
use Rattle.lit_base.specs.Named.{same_name, lits_at}
use Rattle.lit_base.specs.Held.{HeldClause, clauses_of, clause_of, is_before, with_clause}
use Rattle.lit_base.specs.declared.name.Name.{Name}
use Rattle.lit_base.proofs.HeldClauses.{same_name-true, lits_at-cons}
use Rattle.clause_pool.specs.Arena.{at_place}
use Rattle.clause_pool.specs.Slots.{row_names, place_at, AreApart}
use Rattle.clause_pool.specs.Pooled.{held_of}

-- the held clause with this name
abbrev pub clause_at : List HeldClause → Name → Option HeldClause
clause_at held n = find (λ c. same_name c.name n) held

-- a function of the first of two that a test chooses from
pub option_map-cond : {X Y : Type 0} (f : X → Y) (b : Bool) (x : X) (o : Option X) → option_map f (cond b (Some x) o) ≡ cond b (Some (f x)) (option_map f o)
option_map-cond f true x o = refl
option_map-cond f false x o = refl

-- the literals that are found are those of the clause that is found
pub lits_at-clause_at : (held : List HeldClause) (n : Name) → lits_at (clauses_of held) n ≡ option_map (λ c. c.lits) (clause_at held n)
lits_at-clause_at [] n = refl
lits_at-clause_at (c ∷ later) n =
    lits_at-cons (clause_of c) (clauses_of later) n
    ∙ (ap (λ o. cond (same_name c.name n) (Some c.lits) o) (lits_at-clause_at later n)
    ∙ sym (option_map-cond (λ d. d.lits) (same_name c.name n) c (clause_at later n)))

-- nothing is found where a function of it isn't
pub none_from_map : {X Y : Type 0} (f : X → Y) (o : Option X) → option_map f o ≡ None → o ≡ None
none_from_map f None none = refl
none_from_map f (Some x) none = cc

-- a name with no literals has no clause
pub clause_at-none : (held : List HeldClause) (n : Name) → lits_at (clauses_of held) n ≡ None → clause_at held n ≡ None
clause_at-none held n none = none_from_map (λ c. c.lits) (clause_at held n) (sym (lits_at-clause_at held n) ∙ none)

-- and a name with no clause has no literals
pub lits_at-free : (held : List HeldClause) (n : Name) → clause_at held n ≡ None → lits_at (clauses_of held) n ≡ None
lits_at-free held n none = lits_at-clause_at held n ∙ ap (λ o. option_map (λ c. c.lits) o) none

not_found_parts : {X : Type 0} (b : Bool) (x : X) (o : Option X) → cond b (Some x) o ≡ None → (b ≡ false) × (o ≡ None)
not_found_parts true x o none = cc
not_found_parts false x o none = (refl, none)

-- the look-up with one clause more, of a new name
pub clause_at-with : (c : HeldClause) (held : List HeldClause) (n : Name) → clause_at held c.name ≡ None →
    clause_at (with_clause c held) n ≡ cond (same_name c.name n) (Some c) (clause_at held n)
clause_at-with c [] n free = refl
clause_at-with c (d ∷ later) n free =
    let apart = not_found_parts (same_name d.name c.name) d (clause_at later c.name) free in
    cond_both (is_before c.name d.name) (c ∷ d ∷ later) (d ∷ with_clause c later)
    (λ held. clause_at held n ≡ cond (same_name c.name n) (Some c) (clause_at (d ∷ later) n))
    (λ before. refl)
    (λ after. ap (λ o. cond (same_name d.name n) (Some d) o) (clause_at-with c later n apart.1) ∙ by_test (same_name c.name n) refl apart.0)
  where
    by_test : (b : Bool) → same_name c.name n ≡ b → same_name d.name c.name ≡ false →
        cond (same_name d.name n) (Some d) (cond b (Some c) (clause_at later n)) ≡ cond b (Some c) (cond (same_name d.name n) (Some d) (clause_at later n))
    by_test true here apart = cond-false (same_name d.name n) (Some d) (Some c) (subst (λ m. same_name d.name m ≡ false) (same_name-true c.name n here) apart)
    by_test false other apart = refl

-- a name that has no place has no clause
pub clause_at-no_place : (rows : List HeldClause) (n : Name) → place_at (row_names rows) n ≡ None → clause_at rows n ≡ None
clause_at-no_place [] n none = refl
clause_at-no_place (c ∷ older) n none = by_test (same_name c.name n) none (clause_at-no_place older n)
  where
    by_test : (b : Bool) → cond b (Some (length (row_names older))) (place_at (row_names older) n) ≡ None → (place_at (row_names older) n ≡ None → clause_at older n ≡ None) →
        cond b (Some c) (clause_at older n) ≡ None
    by_test true none rest = cc
    by_test false none rest = rest none

-- and one that has no clause has no place
pub place_at-no_clause : (rows : List HeldClause) (n : Name) → clause_at rows n ≡ None → place_at (row_names rows) n ≡ None
place_at-no_clause [] n none = refl
place_at-no_clause (c ∷ older) n none = by_test (same_name c.name n) none (place_at-no_clause older n)
  where
    by_test : (b : Bool) → cond b (Some c) (clause_at older n) ≡ None → (clause_at older n ≡ None → place_at (row_names older) n ≡ None) →
        cond b (Some (length (row_names older))) (place_at (row_names older) n) ≡ None
    by_test true none rest = cc
    by_test false none rest = rest none

-- in order the same clause is found
pub clause_at-held_of : (rows : List HeldClause) (n : Name) → AreApart (row_names rows) → clause_at (held_of rows) n ≡ clause_at rows n
clause_at-held_of [] n apart = refl
clause_at-held_of (c ∷ older) n apart =
    clause_at-with c (held_of older) n (clause_at-held_of older c.name apart.1 ∙ clause_at-no_place older c.name apart.0)
    ∙ ap (λ o. cond (same_name c.name n) (Some c) o) (clause_at-held_of older n apart.1)

-- the literals that are found are those of the clause
pub lits_at-held_of : (rows : List HeldClause) (n : Name) → AreApart (row_names rows) → lits_at (clauses_of (held_of rows)) n ≡ option_map (λ c. c.lits) (clause_at rows n)
lits_at-held_of rows n apart = lits_at-clause_at (held_of rows) n ∙ ap (λ o. option_map (λ c. c.lits) o) (clause_at-held_of rows n apart)

-- a name that has no place has no literals
pub lits_at-no_place : (rows : List HeldClause) (n : Name) → AreApart (row_names rows) → place_at (row_names rows) n ≡ None → lits_at (clauses_of (held_of rows)) n ≡ None
lits_at-no_place rows n apart none = lits_at-held_of rows n apart ∙ ap (λ o. option_map (λ c. c.lits) o) (clause_at-no_place rows n none)

-- a name that has no literals has no place
pub place_at-free : (rows : List HeldClause) (n : Name) → AreApart (row_names rows) → lits_at (clauses_of (held_of rows)) n ≡ None → place_at (row_names rows) n ≡ None
place_at-free rows n apart free = place_at-no_clause rows n (none_from_map (λ c. c.lits) (clause_at rows n) (sym (lits_at-held_of rows n apart) ∙ free))

-- what stands at the place of a name is its clause
pub at_place-clause_at : (rows : List HeldClause) (n : Name) (place : ℕ) → place_at (row_names rows) n ≡ Some place → (at_place rows place ≡ clause_at rows n) × (place < length rows)
at_place-clause_at [] n place is = cc
at_place-clause_at (c ∷ older) n place is = by_test (same_name c.name n) is (at_place-clause_at older n place)
  where
    size : length (row_names older) ≡ length older
    size = length-map older (λ d. d.name)

    by_test : (b : Bool) → cond b (Some (length (row_names older))) (place_at (row_names older) n) ≡ Some place →
        (place_at (row_names older) n ≡ Some place → (at_place older place ≡ clause_at older n) × (place < length older)) →
        (at_place (c ∷ older) place ≡ cond b (Some c) (clause_at older n)) × (place < length (c ∷ older))
    by_test true is rest =
        let here : length (row_names older) ≡ place = same_Some (length (row_names older)) place is in
        let at : place ≡ length older = omega (arith, here, size) in
        (cond-true (place == length older) (Some c) (at_place older place) (eq-eqb place (length older) at), omega arith)
    by_test false is rest =
        let later = rest is in
        let inside : place < length older = later.1 in
        (cond-false (place == length older) (Some c) (at_place older place) (ne_eqb place (length older) (λ at. omega arith)) ∙ later.0, omega arith)
