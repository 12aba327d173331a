-- Clauses of one literal or none, which stand in no row.
use Rattle.std.specs.Prelude.{◌≡◌, List, [], ◌∷◌, Option, Some, None, map}
use Rattle.lit_base.specs.Literal.{Literal}
use Rattle.lit_base.specs.Rounds.{NamedClause}
use Rattle.lit_base.specs.Named.{lits_at}
use Rattle.lit_base.specs.declared.name.Name.{Name}
use Rattle.round_prop.specs.declared.short.Short.{Short}
use Rattle.round_prop.specs.declared.note.Note.{Note}
use Rattle.round_prop.specs.Chains.{no_node}

-- the literals of a short clause
abbrev pub short_lits : Option Literal → List Literal
short_lits None = []
short_lits (Some l) = l ∷ []

-- the names of short clauses
abbrev pub short_names : List Short → List Name
short_names shorts = map (λ (s : Short). s.name) shorts

-- a short clause is one of the clauses
abbrev pub IsShortOf : List NamedClause → Short → Type 0
IsShortOf clauses s = lits_at clauses s.name ≡ Some (short_lits s.lit)

-- the note of a short clause: it has no row
abbrev pub note_of_short : Short → Note
note_of_short s = record { name = s.name; lit = s.lit; row = no_node }
