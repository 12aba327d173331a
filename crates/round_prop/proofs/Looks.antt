-- Clauses by rising names are told by what is found under each name.
use Rattle.std.proofs.Common.{◌≡◌, ◌⊎◌, inl, inr, true, false, List, [], ◌∷◌, refl, ap, sym, ◌∙◌, subst}
use Rattle.std.specs.Prelude.{Option, Some, None, IsTrue}
use Rattle.std.specs.List.{AllByRecursion}
use Rattle.std.proofs.lemmas.Bool.{cases_Bool, cond-true, cond-false, both_ways}
use Rattle.std.proofs.lemmas.Option.{same_Some}
use Rattle.lit_base.specs.Literal.{Literal}
use Rattle.lit_base.specs.Rounds.{NamedClause}
use Rattle.lit_base.specs.Named.{same_name, lits_at}
use Rattle.lit_base.specs.Held.{is_before, AreRisingBy}
use Rattle.lit_base.specs.declared.name.Name.{Name}
use Rattle.lit_base.proofs.HeldClauses.{same_name-itself, same_name-true, lits_at-cons}
use Rattle.lit_base.proofs.NameOrder.{not_before_itself, not_before}

-- the name is before those of all these clauses
abbrev pub IsFirst : Name → List NamedClause → Type 0
IsFirst name clauses = AllByRecursion (λ d. IsTrue (is_before name d.name)) clauses

-- the clauses stand by rising names
abbrev pub AreInOrder : List NamedClause → Type 0
AreInOrder clauses = AreRisingBy (λ (c : NamedClause). c.name) clauses

-- what is found among clauses whose names are all after a name is after it
found_after : (name other : Name) (lits : List Literal) (clauses : List NamedClause) → IsFirst name clauses → lits_at clauses other ≡ Some lits → is_before name other ≡ true
found_after name other lits [] first found = cc
found_after name other lits (d ∷ later) first found = by_test (cases_Bool (same_name d.name other)) (found_after name other lits later first.1)
  where
    by_test : (same_name d.name other ≡ true) ⊎ (same_name d.name other ≡ false) → (lits_at later other ≡ Some lits → is_before name other ≡ true) → is_before name other ≡ true
    by_test (inl here) further = subst (λ n. is_before name n ≡ true) (same_name-true d.name other here) first.0
    by_test (inr there) further = further (sym (cond-false (same_name d.name other) (Some d.lits) (lits_at later other) there) ∙ (sym (lits_at-cons d later other) ∙ found))

none_or : (o : Option (List Literal)) → ((lits : List Literal) → o ≡ Some lits → ⊥) → o ≡ None
none_or None none = refl
none_or (Some lits) none = absurd (none lits refl)

-- no clause is found under a name that is before all
pub none_first : (name : Name) (clauses : List NamedClause) → IsFirst name clauses → lits_at clauses name ≡ None
none_first name clauses first =
    none_or (lits_at clauses name) (λ lits found. let before = found_after name name lits clauses first found in let not = not_before_itself name in cc)

-- what is found with one clause more in front, of a lesser name
found_by_first : (c : NamedClause) (later : List NamedClause) → lits_at (c ∷ later) c.name ≡ Some c.lits
found_by_first c later = lits_at-cons c later c.name ∙ cond-true (same_name c.name c.name) (Some c.lits) (lits_at later c.name) (same_name-itself c.name)

-- the name of the first of the one isn't after that of the first of the other
not_after : (x y : NamedClause) (xs ys : List NamedClause) → IsFirst y.name ys → ((name : Name) → lits_at (x ∷ xs) name ≡ lits_at (y ∷ ys) name) →
    (same_name y.name x.name ≡ true) ⊎ (is_before y.name x.name ≡ true)
not_after x y xs ys first looks = by_test (cases_Bool (same_name y.name x.name))
  where
    by_test : (same_name y.name x.name ≡ true) ⊎ (same_name y.name x.name ≡ false) → (same_name y.name x.name ≡ true) ⊎ (is_before y.name x.name ≡ true)
    by_test (inl here) = inl here
    by_test (inr there) =
        let found = sym (found_by_first x xs) ∙ (looks x.name ∙ (lits_at-cons y ys x.name ∙ cond-false (same_name y.name x.name) (Some y.lits) (lits_at ys x.name) there)) in
        inr (found_after y.name x.name x.lits ys first (sym found))

-- the first clauses of the two have one name
same_first : (x y : NamedClause) (xs ys : List NamedClause) → IsFirst x.name xs → IsFirst y.name ys → ((name : Name) → lits_at (x ∷ xs) name ≡ lits_at (y ∷ ys) name) → x.name ≡ y.name
same_first x y xs ys first second looks = by_order (not_after x y xs ys second looks) (not_after y x ys xs first (λ name. sym (looks name)))
  where
    by_order : (same_name y.name x.name ≡ true) ⊎ (is_before y.name x.name ≡ true) → (same_name x.name y.name ≡ true) ⊎ (is_before x.name y.name ≡ true) → x.name ≡ y.name
    by_order (inl here) other = sym (same_name-true y.name x.name here)
    by_order (inr before) (inl here) = same_name-true x.name y.name here
    by_order (inr before) (inr after) = let none = not_before y.name x.name before in absurd (both_ways (is_before x.name y.name) none after)

clause_at : (a b : Name) (x y : List Literal) → a ≡ b → x ≡ y → (let c : NamedClause = record { name = a; lits = x } in c) ≡ record { name = b; lits = y }
clause_at a b x y name_is lits_are = cc

cons_at : {X : Type 0} (x y : X) (xs ys : List X) → x ≡ y → xs ≡ ys → x ∷ xs ≡ y ∷ ys
cons_at x y xs ys first rest = cc

-- what is found among the later ones
looks_later : (x y : NamedClause) (xs ys : List NamedClause) → IsFirst x.name xs → IsFirst y.name ys → x.name ≡ y.name → ((name : Name) → lits_at (x ∷ xs) name ≡ lits_at (y ∷ ys) name) →
    (name : Name) → lits_at xs name ≡ lits_at ys name
looks_later x y xs ys first second same looks name = by_test (cases_Bool (same_name x.name name))
  where
    by_test : (same_name x.name name ≡ true) ⊎ (same_name x.name name ≡ false) → lits_at xs name ≡ lits_at ys name
    by_test (inl here) =
        let is = same_name-true x.name name here in
        subst (λ n. lits_at xs n ≡ None) is (none_first x.name xs first) ∙ sym (subst (λ n. lits_at ys n ≡ None) (sym same ∙ is) (none_first y.name ys second))
    by_test (inr there) =
        sym (cond-false (same_name x.name name) (Some x.lits) (lits_at xs name) there)
        ∙ (sym (lits_at-cons x xs name) ∙ (looks name ∙ (lits_at-cons y ys name
        ∙ cond-false (same_name y.name name) (Some y.lits) (lits_at ys name) (subst (λ n. same_name n name ≡ false) same there))))

-- of two lists of clauses by rising names in which the same is found under each name, each is the other
pub same_by_looks : (xs ys : List NamedClause) → AreInOrder xs → AreInOrder ys → ((name : Name) → lits_at xs name ≡ lits_at ys name) → xs ≡ ys
same_by_looks [] [] rising other looks = refl
same_by_looks [] (y ∷ ys) rising other looks = let found = looks y.name ∙ found_by_first y ys in cc
same_by_looks (x ∷ xs) [] rising other looks = let found = sym (looks x.name) ∙ found_by_first x xs in cc
same_by_looks (x ∷ xs) (y ∷ ys) rising other looks =
    let names = same_first x y xs ys rising.0 other.0 looks in
    let lits = same_Some x.lits y.lits (sym (found_by_first x xs) ∙ (looks x.name ∙ (ap (λ n. lits_at (y ∷ ys) n) names ∙ found_by_first y ys))) in
    cons_at x y xs ys (clause_at x.name y.name x.lits y.lits names lits) (same_by_looks xs ys rising.1 other.1 (looks_later x y xs ys rising.0 other.0 names looks))
