-- Clauses that a core holds under their names, each with how often it was a hint since the last reduction.
use Rattle.std.specs.Prelude.{⊤, IsTrue, ℕ, ◌+◌, ◌==◌, nat_lt, Bool, not, ◌&&◌, ◌||◌, if◌then◌else◌, List, [], ◌∷◌, length, map, filter}
use Rattle.std.specs.List.{list_any, AllByRecursion}
use Rattle.lit_base.specs.Literal.{Literal}
use Rattle.lit_base.specs.Rounds.{NamedClause}
use Rattle.lit_base.specs.Named.{same_name}
use Rattle.lit_base.specs.declared.name.Name.{Name}

-- a held clause; a list of them stands by rising names
pub record HeldClause : Type 0 where
  pub name : Name
  pub lits : List Literal
  pub uses : ℕ

-- a clause under its name, without its uses
abbrev pub clause_of : HeldClause → NamedClause
clause_of c = record { name = c.name; lits = c.lits }

-- the clauses as propagation and analysis see them
abbrev pub clauses_of : List HeldClause → List NamedClause
clauses_of held = map clause_of held

-- a clause that has no uses yet
abbrev pub unused : NamedClause → HeldClause
unused c = record { name = c.name; lits = c.lits; uses = 0 }

-- whether a name stands before another, as in a dictionary: by period, then by core, then by index
abbrev pub is_before : Name → Name → Bool
is_before a b =
    nat_lt a.period b.period
    || ((a.period == b.period) && (nat_lt a.core b.core || ((a.core == b.core) && nat_lt a.index b.index)))

-- items stand by rising names: each name is before those of all later items
abbrev pub AreRisingBy : {X : Type 0} → (X → Name) → List X → Type 0
AreRisingBy name_of [] = ⊤
AreRisingBy name_of (x ∷ later) = AllByRecursion (λ y. IsTrue (is_before (name_of x) (name_of y))) later × AreRisingBy name_of later

-- names stand in rising order: each is before all later ones
abbrev pub AreRising : List Name → Type 0
AreRising names = AreRisingBy (λ (name : Name). name) names

-- items with one more, in front of the first that has a greater name
abbrev pub with_item : {X : Type 0} → (X → Name) → X → List X → List X
with_item name_of x [] = x ∷ []
with_item name_of x (y ∷ later) = if is_before (name_of x) (name_of y) then x ∷ y ∷ later else y ∷ with_item name_of x later

-- the held clauses with one more
abbrev pub with_clause : HeldClause → List HeldClause → List HeldClause
with_clause c held = with_item (λ (d : HeldClause). d.name) c held

-- named clauses with one more
abbrev pub with_named : NamedClause → List NamedClause → List NamedClause
with_named c clauses = with_item (λ (d : NamedClause). d.name) c clauses

-- names with one more
abbrev pub with_name : Name → List Name → List Name
with_name name names = with_item (λ (other : Name). other) name names

-- originals are the clauses of period 0
abbrev pub is_original : Name → Bool
is_original name = name.period == 0

-- whether the name is one of these
abbrev pub is_among : List Name → Name → Bool
is_among names name = list_any (λ n. same_name n name) names

-- a clause whose name is one of the hints has one use more; originals count none
abbrev pub with_use : List Name → HeldClause → HeldClause
with_use hints c = if not (is_original c.name) && is_among hints c.name then record c { uses = c.uses + 1 } else c

-- the clauses after a lemma was learnt from these hints
abbrev pub with_uses : List Name → List HeldClause → List HeldClause
with_uses hints held = map (with_use hints) held

-- items but those with these names
abbrev pub without_items : {X : Type 0} → (X → Name) → List Name → List X → List X
without_items name_of names items = filter (λ x. not (is_among names (name_of x))) items

-- the held clauses but those with these names
abbrev pub without_names : List Name → List HeldClause → List HeldClause
without_names names held = without_items (λ (c : HeldClause). c.name) names held

-- named clauses but those with these names
abbrev pub clauses_without : List Name → List NamedClause → List NamedClause
clauses_without names clauses = without_items (λ (c : NamedClause). c.name) names clauses

-- names but these
abbrev pub names_without : List Name → List Name → List Name
names_without dropped names = without_items (λ (name : Name). name) dropped names

-- the names of named clauses
abbrev pub names_of : List NamedClause → List Name
names_of clauses = map (λ c. c.name) clauses

-- the names of held clauses
abbrev pub held_names : List HeldClause → List Name
held_names held = map (λ c. c.name) held

-- the number of clauses that are no originals
abbrev pub volume_of : List HeldClause → ℕ
volume_of held = length (filter (λ c. not (is_original c.name)) held)
