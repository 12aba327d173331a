-- Clauses as slots over an arena of literals, the newest first.
use Rattle.std.specs.Prelude.{◌≡◌, ℕ, ◌+◌, ◌==◌, ⊤, Bool, List, [], ◌∷◌, length, map, Option, Some, None, if◌then◌else◌}
use Rattle.lit_base.specs.Literal.{Literal}
use Rattle.lit_base.specs.Named.{same_name}
use Rattle.lit_base.specs.Held.{HeldClause}
use Rattle.lit_base.specs.declared.name.Name.{Name}
use Rattle.clause_pool.specs.declared.slot.Slot.{Slot}
use Rattle.clause_pool.specs.Arena.{parts_of}

-- where the parts of the slots end
abbrev pub ends_of : List Slot → List ℕ
ends_of slots = map (λ s. s.end) slots

-- the clauses of slots whose literals are these
abbrev pub rows_of : List Slot → List (List Literal) → List HeldClause
rows_of [] parts = []
rows_of (s ∷ older) [] = []
rows_of (s ∷ older) (lits ∷ parts) = record { name = s.name; lits = lits; uses = s.uses } ∷ rows_of older parts

-- the clauses of slots over an arena
abbrev pub clauses_in : List Literal → List Slot → List HeldClause
clauses_in literals slots = rows_of slots (parts_of literals (ends_of slots))

-- the names of slots
abbrev pub slot_names : List Slot → List Name
slot_names slots = map (λ s. s.name) slots

-- the names of clauses
abbrev pub row_names : List HeldClause → List Name
row_names rows = map (λ c. c.name) rows

-- the place of a name, counted from the oldest
abbrev pub place_at : List Name → Name → Option ℕ
place_at [] name = None
place_at (n ∷ older) name = if same_name n name then Some (length older) else place_at older name

-- no name stands twice
abbrev pub AreApart : List Name → Type 0
AreApart [] = ⊤
AreApart (n ∷ older) = (place_at older n ≡ None) × AreApart older

-- a slot without its link
abbrev pub unlinked : Slot → Slot
unlinked s = record s { link = 0 }

-- a slot with its uses counted anew
abbrev pub without_count : Slot → Slot
without_count s = record s { uses = 0 }

-- the rows whose flag is low
abbrev pub kept : {X : Type 0} → List Bool → List X → List X
kept [] rows = []
kept (flag ∷ flags) [] = []
kept (flag ∷ flags) (c ∷ older) = if flag then kept flags older else c ∷ kept flags older

-- the clauses with one use more of that at a place
abbrev pub counted_at : ℕ → List HeldClause → List HeldClause
counted_at place [] = []
counted_at place (c ∷ older) = if place == length older then record c { uses = c.uses + 1 } ∷ older else c ∷ counted_at place older
