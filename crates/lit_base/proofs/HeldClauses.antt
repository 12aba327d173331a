-- Looking up held clauses after one is added, some are dropped, or uses are counted.
use Rattle.std.proofs.Common.{◌≡◌, ℕ, ◌==◌, ◌+◌, Bool, true, false, cond, not, ◌&&◌, List, [], ◌∷◌, refl, ap, sym, ◌∙◌, subst, All}
use Rattle.std.specs.Prelude.{Option, Some, None, option_map, find}
use Rattle.std.specs.List.{AllByRecursion}
use Rattle.std.proofs.lemmas.Bool.{and_parts, and_from, eq-eqb, eqb-true, not-true, not-false, both_ways, cond-true, cond-false, cond_both}
use Rattle.std.proofs.lemmas.Option.{none-some}
use Rattle.std.proofs.lemmas.List.Elements.{All-from_recursion, recursion_from_All}
use Rattle.lit_base.specs.Literal.{Literal}
use Rattle.lit_base.specs.Rounds.{NamedClause}
use Rattle.lit_base.specs.Named.{same_name, lits_at}
use Rattle.lit_base.specs.Held.{HeldClause, clause_of, clauses_of, is_before, is_original, with_clause, is_among, with_use, with_uses, without_names}
use Rattle.lit_base.specs.Walk.{FindsMore}
use Rattle.lit_base.specs.Fits.{FindsAll, FitsClauses, HasReason, IsImpliedBy, IsFitting}
use Rattle.lit_base.specs.declared.trail.Entry.{Entry}
use Rattle.lit_base.specs.declared.name.Name.{Name}

-- a name is itself
pub same_name-itself : (n : Name) → same_name n n ≡ true
same_name-itself n =
    and_from (n.period == n.period) ((n.core == n.core) && (n.index == n.index)) (eq-eqb n.period n.period refl)
    (and_from (n.core == n.core) (n.index == n.index) (eq-eqb n.core n.core refl) (eq-eqb n.index n.index refl))

-- names with equal parts
name_at : (a b c p q r : ℕ) → a ≡ p → b ≡ q → c ≡ r → (let n : Name = record { period = a; core = b; index = c } in n) ≡ record { period = p; core = q; index = r }
name_at a b c p q r period core index = cc

-- names that are the same are one
pub same_name-true : (a b : Name) → same_name a b ≡ true → a ≡ b
same_name-true a b is =
    let outer = and_parts (a.period == b.period) ((a.core == b.core) && (a.index == b.index)) is in
    let inner = and_parts (a.core == b.core) (a.index == b.index) outer.1 in
    name_at a.period a.core a.index b.period b.core b.index (eqb-true a.period b.period outer.0) (eqb-true a.core b.core inner.0) (eqb-true a.index b.index inner.1)

lits_at-first : (b : Bool) (c : NamedClause) (o : Option NamedClause) → option_map (λ d. d.lits) (cond b (Some c) o) ≡ cond b (Some c.lits) (option_map (λ d. d.lits) o)
lits_at-first true c o = refl
lits_at-first false c o = refl

-- the look-up among clauses of which one is first
pub lits_at-cons : (c : NamedClause) (clauses : List NamedClause) (n : Name) → lits_at (c ∷ clauses) n ≡ cond (same_name c.name n) (Some c.lits) (lits_at clauses n)
lits_at-cons c clauses n = lits_at-first (same_name c.name n) c (find (λ d. same_name d.name n) clauses)

-- nothing is found where neither the first nor any other is it
pub not_found_parts : {X : Type 0} (b : Bool) (x : X) (o : Option X) → cond b (Some x) o ≡ None → (b ≡ false) × (o ≡ None)
not_found_parts true x o none = cc
not_found_parts false x o none = (refl, none)

-- a name that isn't found is neither that of the first clause nor found among the others
pub lits_at-none : (c : NamedClause) (clauses : List NamedClause) (n : Name) → lits_at (c ∷ clauses) n ≡ None → (same_name c.name n ≡ false) × (lits_at clauses n ≡ None)
lits_at-none c clauses n none = not_found_parts (same_name c.name n) c.lits (lits_at clauses n) (sym (lits_at-cons c clauses n) ∙ none)

-- two clauses of different names are looked up in either order
pub either_order : {X : Type 0} (c d n : Name) (x y : X) (o : Option X) → same_name d c ≡ false →
    cond (same_name d n) (Some y) (cond (same_name c n) (Some x) o) ≡ cond (same_name c n) (Some x) (cond (same_name d n) (Some y) o)
either_order c d n x y o apart = by_tests (same_name c n) (same_name d n) refl refl
  where
    by_tests : (s t : Bool) → same_name c n ≡ s → same_name d n ≡ t → cond t (Some y) (cond s (Some x) o) ≡ cond s (Some x) (cond t (Some y) o)
    by_tests true true here there =
        let same : same_name d c ≡ true = subst (λ m. same_name d m ≡ true) (sym (same_name-true c n here)) there in
        absurd (both_ways (same_name d c) apart same)
    by_tests true false here there = refl
    by_tests false true here there = refl
    by_tests false false here there = refl

-- the look-up with one clause more, of a new name
pub lits_at-with : (c : HeldClause) (held : List HeldClause) (n : Name) → lits_at (clauses_of held) c.name ≡ None →
    lits_at (clauses_of (with_clause c held)) n ≡ cond (same_name c.name n) (Some c.lits) (lits_at (clauses_of held) n)
lits_at-with c [] n free = lits_at-cons (clause_of c) [] n
lits_at-with c (d ∷ later) n free =
    let apart = lits_at-none (clause_of d) (clauses_of later) c.name free in
    cond_both (is_before c.name d.name) (c ∷ d ∷ later) (d ∷ with_clause c later)
    (λ held. lits_at (clauses_of held) n ≡ cond (same_name c.name n) (Some c.lits) (lits_at (clauses_of (d ∷ later)) n))
    (λ before. lits_at-cons (clause_of c) (clauses_of (d ∷ later)) n)
    (λ after. lits_at-cons (clause_of d) (clauses_of (with_clause c later)) n
    ∙ (ap (λ o. cond (same_name d.name n) (Some d.lits) o) (lits_at-with c later n apart.1)
    ∙ (either_order c.name d.name n c.lits d.lits (lits_at (clauses_of later) n) apart.0
    ∙ ap (λ o. cond (same_name c.name n) (Some c.lits) o) (sym (lits_at-cons (clause_of d) (clauses_of later) n)))))

-- a name of the dropped ones isn't found, whether its clause stands first or not
dropped_first : (names : List Name) (d n : Name) (y : List Literal) (o : Option (List Literal)) → is_among names d ≡ true →
    cond (is_among names n) None o ≡ cond (is_among names n) None (cond (same_name d n) (Some y) o)
dropped_first names d n y o dropped = by_test (same_name d n) refl
  where
    by_test : (b : Bool) → same_name d n ≡ b → cond (is_among names n) None o ≡ cond (is_among names n) None (cond b (Some y) o)
    by_test true here =
        let among : is_among names n ≡ true = subst (λ m. is_among names m ≡ true) (same_name-true d n here) dropped in
        cond-true (is_among names n) None o among ∙ sym (cond-true (is_among names n) None (Some y) among)
    by_test false elsewhere = refl

-- a clause of another name than the dropped ones is found still
kept_first : (names : List Name) (d n : Name) (y : List Literal) (o : Option (List Literal)) → is_among names d ≡ false →
    cond (same_name d n) (Some y) (cond (is_among names n) None o) ≡ cond (is_among names n) None (cond (same_name d n) (Some y) o)
kept_first names d n y o kept = by_test (same_name d n) refl
  where
    by_test : (b : Bool) → same_name d n ≡ b → cond b (Some y) (cond (is_among names n) None o) ≡ cond (is_among names n) None (cond b (Some y) o)
    by_test true here = sym (cond-false (is_among names n) None (Some y) (subst (λ m. is_among names m ≡ false) (same_name-true d n here) kept))
    by_test false elsewhere = refl

-- the look-up without the clauses of some names
pub lits_at-without : (names : List Name) (held : List HeldClause) (n : Name) →
    lits_at (clauses_of (without_names names held)) n ≡ cond (is_among names n) None (lits_at (clauses_of held) n)
lits_at-without names [] n = cond_both (is_among names n) None None (λ o. None ≡ o) (λ t. refl) (λ f. refl)
lits_at-without names (d ∷ later) n =
    cond_both (not (is_among names d.name)) (d ∷ without_names names later) (without_names names later)
    (λ held. lits_at (clauses_of held) n ≡ cond (is_among names n) None (lits_at (clauses_of (d ∷ later)) n))
    (λ kept. lits_at-cons (clause_of d) (clauses_of (without_names names later)) n
    ∙ (ap (λ o. cond (same_name d.name n) (Some d.lits) o) (lits_at-without names later n)
    ∙ (kept_first names d.name n d.lits (lits_at (clauses_of later) n) (not-true (is_among names d.name) kept)
    ∙ ap (λ o. cond (is_among names n) None o) (sym (lits_at-cons (clause_of d) (clauses_of later) n)))))
    (λ dropped. lits_at-without names later n
    ∙ (dropped_first names d.name n d.lits (lits_at (clauses_of later) n) (not-false (is_among names d.name) dropped)
    ∙ ap (λ o. cond (is_among names n) None o) (sym (lits_at-cons (clause_of d) (clauses_of later) n))))

-- one use more leaves the clause
clause_of-with_use : (hints : List Name) (c : HeldClause) → clause_of (with_use hints c) ≡ clause_of c
clause_of-with_use hints c =
    cond_both (not (is_original c.name) && is_among hints c.name) (record c { uses = c.uses + 1 }) c (λ d. clause_of d ≡ clause_of c) (λ used. refl) (λ unused. refl)

-- counting uses changes no clause
pub clauses_of-with_uses : (hints : List Name) (held : List HeldClause) → clauses_of (with_uses hints held) ≡ clauses_of held
clauses_of-with_uses hints [] = refl
clauses_of-with_uses hints (c ∷ later) =
    ap (λ d. d ∷ clauses_of (with_uses hints later)) (clause_of-with_use hints c) ∙ ap (λ others. clause_of c ∷ others) (clauses_of-with_uses hints later)

-- what holds of the new clause and of all held ones holds of all
pub all-with : (P : NamedClause → Type 0) (c : HeldClause) (held : List HeldClause) → P (clause_of c) → AllByRecursion P (clauses_of held) →
    AllByRecursion P (clauses_of (with_clause c held))
all-with P c [] one all = (one, tt)
all-with P c (d ∷ later) one all =
    cond_both (is_before c.name d.name) (c ∷ d ∷ later) (d ∷ with_clause c later) (λ held. AllByRecursion P (clauses_of held))
    (λ before. (one, all)) (λ after. (all.0, all-with P c later one all.1))

-- the same of `All`
pub All-with : (P : NamedClause → Type 0) (c : HeldClause) (held : List HeldClause) → P (clause_of c) → All P (clauses_of held) → All P (clauses_of (with_clause c held))
All-with P c held one all = All-from_recursion P (clauses_of (with_clause c held)) (all-with P c held one (recursion_from_All P (clauses_of held) all))

-- what follows for each clause that is kept
all_kept : (P Q : NamedClause → Type 0) (names : List Name) → ((c : NamedClause) → is_among names c.name ≡ false → P c → Q c) → (held : List HeldClause) →
    AllByRecursion P (clauses_of held) → AllByRecursion Q (clauses_of (without_names names held))
all_kept P Q names step [] all = tt
all_kept P Q names step (d ∷ later) all =
    cond_both (not (is_among names d.name)) (d ∷ without_names names later) (without_names names later) (λ held. AllByRecursion Q (clauses_of held))
    (λ kept. (step (clause_of d) (not-true (is_among names d.name) kept) all.0, all_kept P Q names step later all.1)) (λ dropped. all_kept P Q names step later all.1)

-- what holds of all held clauses holds of those that are kept
pub all-without : (P : NamedClause → Type 0) (names : List Name) (held : List HeldClause) → AllByRecursion P (clauses_of held) →
    AllByRecursion P (clauses_of (without_names names held))
all-without P names held all = all_kept P P names (λ c kept holds. holds) held all

-- the same of `All`
pub All-without : (P : NamedClause → Type 0) (names : List Name) (held : List HeldClause) → All P (clauses_of held) → All P (clauses_of (without_names names held))
All-without P names held all = All-from_recursion P (clauses_of (without_names names held)) (all-without P names held (recursion_from_All P (clauses_of held) all))

-- a name that is found isn't the new one
found_not_new : (c : HeldClause) (held : List HeldClause) (n : Name) (lits : List Literal) → lits_at (clauses_of held) c.name ≡ None → lits_at (clauses_of held) n ≡ Some lits → (b : Bool) →
    same_name c.name n ≡ b → cond b (Some c.lits) (lits_at (clauses_of held) n) ≡ Some lits
found_not_new c held n lits free is true here =
    let none : lits_at (clauses_of held) n ≡ None = subst (λ m. lits_at (clauses_of held) m ≡ None) (same_name-true c.name n here) free in
    absurd (none-some lits (sym none ∙ is))
found_not_new c held n lits free is false elsewhere = is

-- what is found stays found with a clause more, of a new name
pub finds_more-with : (c : HeldClause) (held : List HeldClause) → lits_at (clauses_of held) c.name ≡ None →
    FindsMore (lits_at (clauses_of held)) (lits_at (clauses_of (with_clause c held))) (λ name. name)
finds_more-with c held free name lits is = lits_at-with c held name free ∙ found_not_new c held name lits free is (same_name c.name name) refl

-- clauses that are found by one look-up are found by any that finds at least the same
pub finds_all-more : (look found : Name → Option (List Literal)) (clauses : List NamedClause) → FindsMore look found (λ name. name) → FindsAll look clauses → FindsAll found clauses
finds_all-more look found [] more all = tt
finds_all-more look found (c ∷ others) more all = (more c.name c.lits all.0, finds_all-more look found others more all.1)

-- each held clause is found under its name, with a clause more of a new name
pub found-with : (c : HeldClause) (held : List HeldClause) → lits_at (clauses_of held) c.name ≡ None → FindsAll (lits_at (clauses_of held)) (clauses_of held) →
    FindsAll (lits_at (clauses_of (with_clause c held))) (clauses_of (with_clause c held))
found-with c held free found =
    let after = with_clause c held in
    all-with (λ d. lits_at (clauses_of after) d.name ≡ Some d.lits) c held
    (lits_at-with c held c.name free ∙ cond-true (same_name c.name c.name) (Some c.lits) (lits_at (clauses_of held) c.name) (same_name-itself c.name))
    (finds_all-more (lits_at (clauses_of held)) (lits_at (clauses_of after)) (clauses_of held) (finds_more-with c held free) found)

-- and without the clauses of some names
pub found-without : (names : List Name) (held : List HeldClause) → FindsAll (lits_at (clauses_of held)) (clauses_of held) →
    FindsAll (lits_at (clauses_of (without_names names held))) (clauses_of (without_names names held))
found-without names held found =
    all_kept (λ c. lits_at (clauses_of held) c.name ≡ Some c.lits) (λ c. lits_at (clauses_of (without_names names held)) c.name ≡ Some c.lits) names
    (λ c kept is. lits_at-without names held c.name ∙ (cond-false (is_among names c.name) None (lits_at (clauses_of held) c.name) kept ∙ is)) held found

implied_more : (older : List Entry) (l : Literal) (o other : Option (List Literal)) → ((lits : List Literal) → o ≡ Some lits → other ≡ Some lits) → IsImpliedBy older l o → IsImpliedBy older l other
implied_more older l None other more implied = absurd implied
implied_more older l (Some lits) other more implied = subst (λ p. IsImpliedBy older l p) (sym (more lits refl)) implied

reason_more : (look found : Name → Option (List Literal)) (older : List Entry) (l : Literal) (reason : Option Name) → FindsMore look found (λ name. name) →
    HasReason look older l reason → HasReason found older l reason
reason_more look found older l None more has = tt
reason_more look found older l (Some name) more has = implied_more older l (look name) (found name) (more name) has

fits_more : (look found : Name → Option (List Literal)) (trail : List Entry) → FindsMore look found (λ name. name) → FitsClauses look trail → FitsClauses found trail
fits_more look found [] more fits = tt
fits_more look found (e ∷ older) more fits = (reason_more look found older e.lit e.reason more fits.0, fits_more look found older more fits.1)

-- a trail that fits clauses fits any that hold at least the same
pub fitting-more : (look found : Name → Option (List Literal)) (trail : List Entry) → FindsMore look found (λ name. name) → IsFitting look trail → IsFitting found trail
fitting-more look found trail more fitting = record {
  distinct = fitting.distinct;
  fits = fits_more look found trail more fitting.fits;
  leveled = fitting.leveled;
}
