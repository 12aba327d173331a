-- Attached clauses follow held clauses: one more, some less, and which names are new.
use Rattle.std.proofs.Common.{◌≡◌, Bool, true, false, cond, not, ◌||◌, List, [], ◌∷◌, ◌++◌, refl, ap, sym, ◌∙◌}
use Rattle.std.specs.Prelude.{Option, Some, None, is_some, map, filter, reverse, if◌then◌else◌}
use Rattle.std.proofs.lemmas.List.{reverse-append, append-nil}
use Rattle.lit_base.specs.Literal.{Literal}
use Rattle.lit_base.specs.Rounds.{NamedClause}
use Rattle.lit_base.specs.Named.{same_name, lits_at}
use Rattle.lit_base.specs.Held.{HeldClause, clause_of, clauses_of, is_before, with_clause, without_names, is_among, names_of, with_named, clauses_without}
use Rattle.lit_base.specs.declared.name.Name.{Name}
use Rattle.lit_base.proofs.HeldClauses.{lits_at-cons}

map-cond : {X Y : Type 0} (f : X → Y) (b : Bool) (xs ys : List X) → map f (cond b xs ys) ≡ cond b (map f xs) (map f ys)
map-cond f true xs ys = refl
map-cond f false xs ys = refl

-- what is kept of a list and then mapped is what is kept of the mapped list
map-filter : {X Y : Type 0} (f : X → Y) (p : Y → Bool) (xs : List X) → map f (filter (λ x. p (f x)) xs) ≡ filter p (map f xs)
map-filter f p [] = refl
map-filter f p (x ∷ others) =
    map-cond f (p (f x)) (x ∷ filter (λ y. p (f y)) others) (filter (λ y. p (f y)) others)
    ∙ ap (λ ys. cond (p (f x)) (f x ∷ ys) ys) (map-filter f p others)

-- the clauses with one more held
pub clauses_of-with_clause : (c : HeldClause) (held : List HeldClause) → clauses_of (with_clause c held) ≡ with_named (clause_of c) (clauses_of held)
clauses_of-with_clause c [] = refl
clauses_of-with_clause c (d ∷ later) =
    map-cond clause_of (is_before c.name d.name) (c ∷ d ∷ later) (d ∷ with_clause c later)
    ∙ ap (λ ds. cond (is_before c.name d.name) (clause_of c ∷ clause_of d ∷ clauses_of later) (clause_of d ∷ ds)) (clauses_of-with_clause c later)

-- and without some
pub clauses_of-without_names : (names : List Name) (held : List HeldClause) → clauses_of (without_names names held) ≡ clauses_without names (clauses_of held)
clauses_of-without_names names held = map-filter clause_of (λ c. not (is_among names c.name)) held

-- a name is among those of clauses where one is found under it
pub is_among-names_of : (clauses : List NamedClause) (name : Name) → is_among (names_of clauses) name ≡ is_some (lits_at clauses name)
is_among-names_of [] name = refl
is_among-names_of (c ∷ later) name =
    by_test (same_name c.name name) (lits_at later name) (is_among-names_of later name)
    ∙ ap is_some (sym (lits_at-cons c later name))
  where
    by_test : (b : Bool) (o : Option (List Literal)) → is_among (names_of later) name ≡ is_some o → (b || is_among (names_of later) name) ≡ is_some (cond b (Some c.lits) o)
    by_test true o rest = refl
    by_test false o rest = rest

-- a name that isn't found isn't among the names
pub not_among : (clauses : List NamedClause) (name : Name) → lits_at clauses name ≡ None → is_among (names_of clauses) name ≡ false
not_among clauses name none = is_among-names_of clauses name ∙ ap is_some none

filter-last : {X : Type 0} (p : X → Bool) (xs : List X) (x : X) → filter p (xs ++ x ∷ []) ≡ filter p xs ++ (if p x then x ∷ [] else [])
filter-last p [] x = refl
filter-last p (y ∷ ys) x = by_test (p y) (filter-last p ys x)
  where
    by_test : (b : Bool) → filter p (ys ++ x ∷ []) ≡ filter p ys ++ (if p x then x ∷ [] else []) →
        cond b (y ∷ filter p (ys ++ x ∷ [])) (filter p (ys ++ x ∷ [])) ≡ cond b (y ∷ filter p ys) (filter p ys) ++ (if p x then x ∷ [] else [])
    by_test true rest = ap (λ zs. y ∷ zs) rest
    by_test false rest = rest

-- what is kept of a list turned round is what is kept of it, turned round
pub filter-reverse : {X : Type 0} (p : X → Bool) (xs : List X) → filter p (reverse xs) ≡ reverse (filter p xs)
filter-reverse p [] = refl
filter-reverse p (x ∷ others) =
    ap (λ ys. filter p ys) (reverse-append (x ∷ []) others)
    ∙ (filter-last p (reverse others) x
    ∙ (ap (λ ys. ys ++ (if p x then x ∷ [] else [])) (filter-reverse p others)
    ∙ by_test (p x)))
  where
    by_test : (b : Bool) → reverse (filter p others) ++ (if b then x ∷ [] else []) ≡ reverse (cond b (x ∷ filter p others) (filter p others))
    by_test true = sym (reverse-append (x ∷ []) (filter p others))
    by_test false = append-nil (reverse (filter p others))
