-- Where the literals of clauses stand in the arena, by id.
use Rattle.std.specs.Prelude.{ℕ, nat_le, List, Option, Some, None, slice_get, option_map, if◌then◌else◌}
use Rattle.std.specs.Ordering.{nat_cmp}
use Rattle.std.specs.BTreeMap.{get}
use Rattle.lrat_check.specs.declared.table.Span.{Span}
use Rattle.lrat_check.specs.declared.table.ShortSpan.{ShortSpan}
use Rattle.lrat_check.specs.declared.table.Table.{Table}

-- the part that a span stands for: none where it ends before it begins
abbrev pub part_of : Option Span → Option Span
part_of None = None
part_of (Some s) = if nat_le s.from s.to then Some s else None

-- a short span in full
abbrev pub long : ShortSpan → Span
long s = record { from = s.from; to = s.to }

-- the part of an id in the array
abbrev pub part_at : List ShortSpan → ℕ → Option Span
part_at spans id = part_of (option_map long (slice_get spans id))

-- the first of two, where it is there
abbrev pub first_of : Option Span → Option Span → Option Span
first_of None other = other
first_of (Some s) other = Some s

-- the part of an id: the array's, or else the map's
unfoldable pub span_at : Table → ℕ → Option Span
span_at table id = first_of (part_at table.spans.items id) (part_of (get nat_cmp table.leaps id))
