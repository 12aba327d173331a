-- Changes of clauses in the order of adding, as changes of the held clauses.
use Rattle.std.proofs.Common.{◌≡◌, ℕ, ◌+◌, ◌<◌, ◌==◌, Bool, true, false, not, cond, ◌&&◌, ◌||◌, List, [], ◌∷◌, ◌++◌, length, get_or, map, All, refl, ap, sym, ◌∙◌, subst, arith}
use Rattle.std.specs.Prelude.{Some, None, filter}
use Rattle.std.proofs.lemmas.Bool.{cond-true, cond-false, cond_both, and_left, and_right, eq-eqb, ne_eqb}
use Rattle.std.proofs.lemmas.Option.{same_Some}
use Rattle.std.proofs.lemmas.List.{length-map, map-append}
use Rattle.std.proofs.lemmas.List.Elements.{filter-append}
use Rattle.std.proofs.lemmas.List.Folds.{list_any_none}
use Rattle.std.specs.List.{IsDistinct}
use Rattle.lit_base.specs.Literal.{Literal, same}
use Rattle.lit_base.specs.Rounds.{original}
use Rattle.lit_base.specs.Named.{same_name, lits_at}
use Rattle.lit_base.specs.Held.{HeldClause, clause_of, clauses_of, is_before, is_original, is_among, with_clause, with_use, with_uses, without_names, clauses_without}
use Rattle.lit_base.specs.declared.name.Name.{Name}
use Rattle.lit_base.proofs.HeldClauses.{same_name-true, same_name-itself, all-with, all-without}
use Rattle.clause_pool.specs.Slots.{row_names, place_at, AreApart, counted_at}
use Rattle.clause_pool.specs.Pooled.{held_of, originals_of, IsPool}
use Rattle.clause_pool.specs.Uses.{cleared, without_uses}
use Rattle.clause_pool.specs.Rising.{AreRising, HaveDistinctLits}
use Rattle.clause_pool.proofs.ClauseAt.{clause_at, clause_at-no_place, place_at-no_clause, place_at-free, at_place-clause_at}
use Rattle.clause_pool.proofs.Order.{IsFirst, first-trans, ordered-held_of}
use Rattle.clause_pool.proofs.Placing.{same_name-sym}

-- a change that keeps the names goes through the adding of a clause
map-with : (g : HeldClause → HeldClause) → ((c : HeldClause) → (g c).name ≡ c.name) → (c : HeldClause) (held : List HeldClause) → map g (with_clause c held) ≡ with_clause (g c) (map g held)
map-with g names c [] = refl
map-with g names c (d ∷ later) =
    cond_both (is_before c.name d.name) (c ∷ d ∷ later) (d ∷ with_clause c later)
    (λ held. map g held ≡ cond (is_before (g c).name (g d).name) (g c ∷ g d ∷ map g later) (g d ∷ with_clause (g c) (map g later)))
    (λ before. sym (cond-true (is_before (g c).name (g d).name) (g c ∷ g d ∷ map g later) (g d ∷ with_clause (g c) (map g later)) (same_order (names c) (names d) ∙ before)))
    (λ after. ap (λ others. g d ∷ others) (map-with g names c later)
    ∙ sym (cond-false (is_before (g c).name (g d).name) (g c ∷ g d ∷ map g later) (g d ∷ with_clause (g c) (map g later)) (same_order (names c) (names d) ∙ after)))
  where
    same_order : {a b p q : Name} → p ≡ a → q ≡ b → is_before p q ≡ is_before a b
    same_order {a} {b} {p} {q} first second = ap (λ x. is_before x q) first ∙ ap (λ y. is_before a y) second

-- and changes each held clause
pub held_of-map : (g : HeldClause → HeldClause) → ((c : HeldClause) → (g c).name ≡ c.name) → (rows : List HeldClause) → held_of (map g rows) ≡ map g (held_of rows)
held_of-map g names [] = refl
held_of-map g names (c ∷ older) = ap (with_clause (g c)) (held_of-map g names older) ∙ sym (map-with g names c (held_of older))

pub names-map : (g : HeldClause → HeldClause) → ((c : HeldClause) → (g c).name ≡ c.name) → (rows : List HeldClause) → row_names (map g rows) ≡ row_names rows
names-map g names [] = refl
names-map g names (c ∷ older) = ap (λ n. n ∷ row_names (map g older)) (names c) ∙ ap (λ ns. c.name ∷ ns) (names-map g names older)

pub cleared_name : (c : HeldClause) → (without_uses c).name ≡ c.name
cleared_name c = refl

pub used_name : (n : Name) (c : HeldClause) → (with_use (n ∷ []) c).name ≡ c.name
used_name n c = cond_both (not (is_original c.name) && is_among (n ∷ []) c.name) (record c { uses = c.uses + 1 }) c (λ d. d.name ≡ c.name) (λ t. refl) (λ f. refl)

-- originals have no uses to clear
cleared_originals : (parts : List (List Literal)) → cleared (originals_of parts) ≡ originals_of parts
cleared_originals [] = refl
cleared_originals (lits ∷ older) = ap (λ rows. let c : HeldClause = record { name = original (length older); lits = lits; uses = 0 } in c ∷ rows) (cleared_originals older)

pub cleared_rows : (rows : List HeldClause) (parts : List (List Literal)) → cleared rows ++ originals_of parts ≡ cleared (rows ++ originals_of parts)
cleared_rows rows parts = ap (λ others. cleared rows ++ others) (sym (cleared_originals parts)) ∙ sym (map-append without_uses rows (originals_of parts))

-- clearing uses changes no clause
pub clauses_of-cleared : (held : List HeldClause) → clauses_of (cleared held) ≡ clauses_of held
clauses_of-cleared [] = refl
clauses_of-cleared (c ∷ later) = ap (λ others. clause_of c ∷ others) (clauses_of-cleared later)

-- a clause under its own name counts one use more
with_use-here : (n : Name) (c : HeldClause) → is_original n ≡ false → same_name c.name n ≡ true → with_use (n ∷ []) c ≡ record c { uses = c.uses + 1 }
with_use-here n c lemma here =
    let same : c.name ≡ n = same_name-true c.name n here in
    let counts : (not (is_original c.name) && is_among (n ∷ []) c.name) ≡ true =
    ap (λ m. not (is_original m) && (same_name n m || false)) same ∙ (ap (λ b. not b && (same_name n n || false)) lemma ∙ ap (λ b. b || false) (same_name-itself n)) in
    cond-true (not (is_original c.name) && is_among (n ∷ []) c.name) (record c { uses = c.uses + 1 }) c counts

-- a clause under another name counts none
with_use-elsewhere : (n : Name) (c : HeldClause) → same_name c.name n ≡ false → with_use (n ∷ []) c ≡ c
with_use-elsewhere n c elsewhere =
    let counts : (not (is_original c.name) && is_among (n ∷ []) c.name) ≡ false =
    ap (λ b. not (is_original c.name) && (b || false)) (same_name-sym n c.name ∙ elsewhere) ∙ and_right (not (is_original c.name)) false refl in
    cond-false (not (is_original c.name) && is_among (n ∷ []) c.name) (record c { uses = c.uses + 1 }) c counts

-- an original counts none
with_use-original : (names : List Name) (c : HeldClause) → is_original c.name ≡ true → with_use names c ≡ c
with_use-original names c original =
    cond-false (not (is_original c.name) && is_among names c.name) (record c { uses = c.uses + 1 }) c (ap (λ b. not b && is_among names c.name) original)

used_originals : (names : List Name) (parts : List (List Literal)) → with_uses names (originals_of parts) ≡ originals_of parts
used_originals names [] = refl
used_originals names (lits ∷ older) =
    let c : HeldClause = record { name = original (length older); lits = lits; uses = 0 } in
    ap (λ d. d ∷ with_uses names (originals_of older)) (with_use-original names c refl) ∙ ap (λ rows. c ∷ rows) (used_originals names older)

-- a name that no clause has counts none
used_none : (rows : List HeldClause) (n : Name) → clause_at rows n ≡ None → with_uses (n ∷ []) rows ≡ rows
used_none [] n none = refl
used_none (c ∷ older) n none = by_test (same_name c.name n) refl none (used_none older n)
  where
    by_test : (b : Bool) → same_name c.name n ≡ b → cond b (Some c) (clause_at older n) ≡ None → (clause_at older n ≡ None → with_uses (n ∷ []) older ≡ older) → with_uses (n ∷ []) (c ∷ older) ≡ c ∷ older
    by_test true here none rest = cc
    by_test false elsewhere none rest = ap (λ d. d ∷ with_uses (n ∷ []) older) (with_use-elsewhere n c elsewhere) ∙ ap (λ rows. c ∷ rows) (rest none)

-- counting a use at the place of a lemma counts it of the lemma
used_at : (rows : List HeldClause) (n : Name) (place : ℕ) → AreApart (row_names rows) → is_original n ≡ false → place_at (row_names rows) n ≡ Some place → counted_at place rows ≡ with_uses (n ∷ []) rows
used_at [] n place apart lemma is = cc
used_at (c ∷ older) n place apart lemma is = by_test (same_name c.name n) refl is (used_at older n place apart.1 lemma) (place_below older n place)
  where
    place_below : (rows : List HeldClause) (n : Name) (place : ℕ) → place_at (row_names rows) n ≡ Some place → place < length rows
    place_below rows n place is = (at_place-clause_at rows n place is).1

    by_test : (b : Bool) → same_name c.name n ≡ b → cond b (Some (length (row_names older))) (place_at (row_names older) n) ≡ Some place →
        (place_at (row_names older) n ≡ Some place → counted_at place older ≡ with_uses (n ∷ []) older) → (place_at (row_names older) n ≡ Some place → place < length older) →
        counted_at place (c ∷ older) ≡ with_uses (n ∷ []) (c ∷ older)
    by_test true here is rest below =
        let at : place ≡ length older = sym (same_Some (length (row_names older)) place is) ∙ length-map older (λ d. d.name) in
        let gone : clause_at older n ≡ None = subst (λ m. clause_at older m ≡ None) (same_name-true c.name n here) (clause_at-no_place older c.name apart.0) in
        cond-true (place == length older) (record c { uses = c.uses + 1 } ∷ older) (c ∷ counted_at place older) (eq-eqb place (length older) at)
        ∙ (ap (λ rows. let d : HeldClause = record c { uses = c.uses + 1 } in d ∷ rows) (sym (used_none older n gone))
        ∙ ap (λ d. d ∷ with_uses (n ∷ []) older) (sym (with_use-here n c lemma here)))
    by_test false elsewhere is rest below =
        let inside : place < length older = below is in
        cond-false (place == length older) (record c { uses = c.uses + 1 } ∷ older) (c ∷ counted_at place older) (ne_eqb place (length older) (λ at. omega (arith, inside, at)))
        ∙ (ap (λ rows. c ∷ rows) (rest is) ∙ ap (λ d. d ∷ with_uses (n ∷ []) older) (sym (with_use-elsewhere n c elsewhere)))

pub used_rows : (rows : List HeldClause) (parts : List (List Literal)) (n : Name) (place : ℕ) → AreApart (row_names rows) → is_original n ≡ false → place_at (row_names rows) n ≡ Some place →
    counted_at place rows ++ originals_of parts ≡ with_uses (n ∷ []) (rows ++ originals_of parts)
used_rows rows parts n place apart lemma is =
    ap (λ counted. counted ++ originals_of parts) (used_at rows n place apart lemma is)
    ∙ (ap (λ others. with_uses (n ∷ []) rows ++ others) (sym (used_originals (n ∷ []) parts)) ∙ sym (map-append (with_use (n ∷ [])) rows (originals_of parts)))

-- a use of an original isn't counted
original_unused : (n : Name) (c : HeldClause) → is_original n ≡ true → with_use (n ∷ []) c ≡ c
original_unused n c original = by_test (same_name c.name n) refl
  where
    by_test : (b : Bool) → same_name c.name n ≡ b → with_use (n ∷ []) c ≡ c
    by_test true here = with_use-original (n ∷ []) c (ap is_original (same_name-true c.name n here) ∙ original)
    by_test false elsewhere = with_use-elsewhere n c elsewhere

-- so no clause changes
pub with_uses-original : (n : Name) (held : List HeldClause) → is_original n ≡ true → with_uses (n ∷ []) held ≡ held
with_uses-original n [] original = refl
with_uses-original n (c ∷ later) original =
    ap (λ d. d ∷ with_uses (n ∷ []) later) (original_unused n c original) ∙ ap (λ others. c ∷ others) (with_uses-original n later original)

-- a clause that fails the test and is added leaves what passes it
filter-with_failing : (p : HeldClause → Bool) (c : HeldClause) (held : List HeldClause) → p c ≡ false → filter p (with_clause c held) ≡ filter p held
filter-with_failing p c [] fails = cond-false (p c) (c ∷ []) [] fails
filter-with_failing p c (d ∷ later) fails =
    cond_both (is_before c.name d.name) (c ∷ d ∷ later) (d ∷ with_clause c later) (λ held. filter p held ≡ filter p (d ∷ later))
    (λ before. cond-false (p c) (c ∷ filter p (d ∷ later)) (filter p (d ∷ later)) fails)
    (λ after. ap (λ others. cond (p d) (d ∷ others) others) (filter-with_failing p c later fails))

first-filter : (name : Name) (p : HeldClause → Bool) (held : List HeldClause) → IsFirst name held → IsFirst name (filter p held)
first-filter name p [] first = tt
first-filter name p (d ∷ later) first =
    cond_both (p d) (d ∷ filter p later) (filter p later) (λ held. IsFirst name held) (λ t. (first.0, first-filter name p later first.1)) (λ f. first-filter name p later first.1)

-- a clause whose name is before all stands first
with_clause-first : (c : HeldClause) (held : List HeldClause) → IsFirst c.name held → with_clause c held ≡ c ∷ held
with_clause-first c [] first = refl
with_clause-first c (d ∷ later) first = cond-true (is_before c.name d.name) (c ∷ d ∷ later) (d ∷ with_clause c later) first.0

with_later : (c d : HeldClause) (others : List HeldClause) (b : Bool) → is_before c.name d.name ≡ false →
    cond b (d ∷ with_clause c others) (with_clause c others) ≡ with_clause c (cond b (d ∷ others) others)
with_later c d others true after = sym (cond-false (is_before c.name d.name) (c ∷ d ∷ others) (d ∷ with_clause c others) after)
with_later c d others false after = refl

-- one that passes is added among those that pass
filter-with_passing : (p : HeldClause → Bool) (c : HeldClause) (held : List HeldClause) → p c ≡ true → AreRising held → filter p (with_clause c held) ≡ with_clause c (filter p held)
filter-with_passing p c [] passes rising = cond-true (p c) (c ∷ []) [] passes
filter-with_passing p c (d ∷ later) passes rising =
    cond_both (is_before c.name d.name) (c ∷ d ∷ later) (d ∷ with_clause c later) (λ held. filter p held ≡ with_clause c (filter p (d ∷ later)))
    (λ before. cond-true (p c) (c ∷ filter p (d ∷ later)) (filter p (d ∷ later)) passes
    ∙ sym (with_clause-first c (filter p (d ∷ later)) (first-filter c.name p (d ∷ later) (before, first-trans c.name d.name later before rising.0))))
    (λ after. ap (λ others. cond (p d) (d ∷ others) others) (filter-with_passing p c later passes rising.1) ∙ with_later c d (filter p later) (p d) after)

-- those that pass are the held ones of those that pass
pub held_of-filter : (p : HeldClause → Bool) (rows : List HeldClause) → AreApart (row_names rows) → held_of (filter p rows) ≡ filter p (held_of rows)
held_of-filter p [] apart = refl
held_of-filter p (c ∷ older) apart = by_test (p c) refl (held_of-filter p older apart.1) (ordered-held_of older apart.1).rising
  where
    by_test : (b : Bool) → p c ≡ b → held_of (filter p older) ≡ filter p (held_of older) → AreRising (held_of older) → held_of (cond b (c ∷ filter p older) (filter p older)) ≡ filter p (with_clause c (held_of older))
    by_test true passes later rising = ap (with_clause c) later ∙ sym (filter-with_passing p c (held_of older) passes rising)
    by_test false fails later rising = later ∙ sym (filter-with_failing p c (held_of older) fails)

clause_at-filter : (p : HeldClause → Bool) (rows : List HeldClause) (n : Name) → clause_at rows n ≡ None → clause_at (filter p rows) n ≡ None
clause_at-filter p [] n none = refl
clause_at-filter p (c ∷ older) n none = by_test (same_name c.name n) refl none (clause_at-filter p older n)
  where
    by_test : (b : Bool) → same_name c.name n ≡ b → cond b (Some c) (clause_at older n) ≡ None → (clause_at older n ≡ None → clause_at (filter p older) n ≡ None) →
        clause_at (cond (p c) (c ∷ filter p older) (filter p older)) n ≡ None
    by_test true here none rest = cc
    by_test false elsewhere none rest =
        cond_both (p c) (c ∷ filter p older) (filter p older) (λ rows. clause_at rows n ≡ None)
        (λ t. cond-false (same_name c.name n) (Some c) (clause_at (filter p older) n) elsewhere ∙ rest none) (λ f. rest none)

-- no name stands twice among those that pass
pub apart-filter : (p : HeldClause → Bool) (rows : List HeldClause) → AreApart (row_names rows) → AreApart (row_names (filter p rows))
apart-filter p [] apart = tt
apart-filter p (c ∷ older) apart =
    cond_both (p c) (c ∷ filter p older) (filter p older) (λ rows. AreApart (row_names rows))
    (λ t. (place_at-no_clause (filter p older) c.name (clause_at-filter p older c.name (clause_at-no_place older c.name apart.0)), apart-filter p older apart.1))
    (λ f. apart-filter p older apart.1)

lemma_differs : (n : Name) (k : ℕ) → is_original n ≡ false → same_name n (original k) ≡ false
lemma_differs n k lemma = and_left (n.period == 0) ((n.core == 0) && (n.index == k)) lemma

-- originals are kept where lemmas are dropped
kept_originals : (names : List Name) (parts : List (List Literal)) → All (λ n. is_original n ≡ false) names → without_names names (originals_of parts) ≡ originals_of parts
kept_originals names [] lemmas = refl
kept_originals names (lits ∷ older) lemmas =
    let c : HeldClause = record { name = original (length older); lits = lits; uses = 0 } in
    let other : is_among names c.name ≡ false = list_any_none (λ n. same_name n c.name) names (λ k d inside. lemma_differs (get_or names k d) (length older) (lemmas k d inside)) in
    cond-true (not (is_among names c.name)) (c ∷ without_names names (originals_of older)) (without_names names (originals_of older)) (ap not other)
    ∙ ap (λ rows. c ∷ rows) (kept_originals names older lemmas)

pub without_rows : (names : List Name) (rows : List HeldClause) (parts : List (List Literal)) → All (λ n. is_original n ≡ false) names →
    without_names names rows ++ originals_of parts ≡ without_names names (rows ++ originals_of parts)
without_rows names rows parts lemmas =
    ap (λ others. without_names names rows ++ others) (sym (kept_originals names parts lemmas)) ∙ sym (filter-append (λ c. not (is_among names c.name)) rows (originals_of parts))

-- dropping clauses by their names drops them without their uses too
pub clauses_of-without : (names : List Name) (rows : List HeldClause) → clauses_of (without_names names rows) ≡ clauses_without names (clauses_of rows)
clauses_of-without names [] = refl
clauses_of-without names (c ∷ older) =
    cond_both (not (is_among names c.name)) (c ∷ without_names names older) (without_names names older)
    (λ rows. clauses_of rows ≡ cond (not (is_among names c.name)) (clause_of c ∷ clauses_without names (clauses_of older)) (clauses_without names (clauses_of older)))
    (λ kept. ap (λ others. clause_of c ∷ others) (clauses_of-without names older)
    ∙ sym (cond-true (not (is_among names c.name)) (clause_of c ∷ clauses_without names (clauses_of older)) (clauses_without names (clauses_of older)) kept))
    (λ dropped. clauses_of-without names older
    ∙ sym (cond-false (not (is_among names c.name)) (clause_of c ∷ clauses_without names (clauses_of older)) (clauses_without names (clauses_of older)) dropped))

-- what the pool keeps where clauses changed that keep their names and literals
pub pool_changed : (g : HeldClause → HeldClause) → ((c : HeldClause) → (g c).name ≡ c.name) → ((held : List HeldClause) → clauses_of (map g held) ≡ clauses_of held) → (rows : List HeldClause) →
    IsPool rows → IsPool (map g rows)
pool_changed g names lits rows pool = record {
  apart = subst AreApart (sym (names-map g names rows)) pool.apart;
  distinct = subst HaveDistinctLits (sym (ap clauses_of (held_of-map g names rows) ∙ lits (held_of rows))) pool.distinct;
}

-- and where some were dropped
pub pool_dropped : (names : List Name) (rows : List HeldClause) → IsPool rows → IsPool (without_names names rows)
pool_dropped names rows pool = record {
  apart = apart-filter (λ c. not (is_among names c.name)) rows pool.apart;
  distinct = subst (λ held. HaveDistinctLits (clauses_of held)) (sym (held_of-filter (λ c. not (is_among names c.name)) rows pool.apart))
      (all-without (λ c. IsDistinct same c.lits) names (held_of rows) pool.distinct);
}

-- and with one more, of a new name
pub pool_added : (c : HeldClause) (rows : List HeldClause) → IsPool rows → lits_at (clauses_of (held_of rows)) c.name ≡ None → IsDistinct same c.lits → IsPool (c ∷ rows)
pool_added c rows pool free distinct = record {
  apart = (place_at-free rows c.name pool.apart free, pool.apart);
  distinct = all-with (λ d. IsDistinct same d.lits) c (held_of rows) distinct pool.distinct;
}
