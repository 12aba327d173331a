-- Where rows tell that the literals of their clauses stand in the pool.
use Rattle.std.specs.Prelude.{◌≡◌, ◌<◌, ℕ, nat_lt, List, Option, Some, None, if◌then◌else◌}
use Rattle.std.specs.List.{AllByRecursion}
use Rattle.lit_base.specs.Rounds.{NamedClause}
use Rattle.lit_base.specs.declared.name.Name.{Name}
use Rattle.clause_pool.specs.Spans.{span_of}
use Rattle.clause_pool.specs.declared.span.Span.{Span}
use Rattle.round_prop.specs.declared.row.Row.{Row}
use Rattle.round_prop.specs.Attached.{RoundsState}

-- the end of a row that tells nothing
abbrev pub nowhere : ℕ
nowhere = 4294967295

-- a row of this name that tells nothing
abbrev pub silent : Name → Row
silent name = record { name = name; start = 0; end = nowhere }

-- a row of this name that tells of a span, where there is one and its end fits
abbrev pub telling : Name → Option Span → Row
telling name None = silent name
telling name (Some span) = if nat_lt span.end nowhere then record { name = name; start = span.start; end = span.end } else silent name

-- the row of a name, where clauses were added in this order
abbrev pub row_for : List NamedClause → Name → Row
row_for added name = telling name (span_of added name)

-- what the row tells, if it does, is where its clause stands among those that were added in this order
abbrev pub IsSpanned : List NamedClause → Row → Type 0
IsSpanned added row = row.end < nowhere → span_of added row.name ≡ Some (record { start = row.start; end = row.end })

-- so it is for all rows
abbrev pub AreSpanned : List NamedClause → List Row → Type 0
AreSpanned added rows = AllByRecursion (IsSpanned added) rows

-- wherever propagation remembers where a clause stands, it stands there among these, which were added in this order
unfoldable pub IsPlacedIn : RoundsState → List NamedClause → Type 0
IsPlacedIn r added = AreSpanned added r.table.rows.items
