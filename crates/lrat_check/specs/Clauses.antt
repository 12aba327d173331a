-- The live clauses, as an arena and a table hold them.
use Rattle.std.specs.Prelude.{ℕ, ◌≤◌, ⊤, nat_le, ◌&&◌, List, length, Option, Some, None, slice_range, if◌then◌else◌}
use Rattle.lit_base.specs.Literal.{Literal}
use Rattle.lrat_check.specs.Table.{span_at}
use Rattle.lrat_check.specs.declared.table.Span.{Span}
use Rattle.lrat_check.specs.declared.clauses.Clauses.{Clauses}

-- the literals of a part, where it lies within the arena
abbrev pub lits_in : List Literal → Option Span → Option (List Literal)
lits_in literals None = None
lits_in literals (Some s) = if nat_le s.from s.to && nat_le s.to (length literals) then Some (slice_range literals s.from s.to) else None

-- the literals of the clause with this id
unfoldable pub lits_at : Clauses → ℕ → Option (List Literal)
lits_at clauses id = lits_in clauses.literals.items (span_at clauses.table id)

-- a part lies within an arena of so many literals
abbrev pub IsPart : ℕ → Option Span → Type 0
IsPart size None = ⊤
IsPart size (Some s) = (s.from ≤ s.to) × (s.to ≤ size)

-- each part lies within the arena
unfoldable pub AreWithin : Clauses → Type 0
AreWithin clauses = (id : ℕ) → IsPart (length clauses.literals.items) (span_at clauses.table id)
