-- Clauses under their names.
use Rattle.std.specs.Prelude.{◌==◌, Bool, ◌&&◌, List, Option, option_map, find}
use Rattle.lit_base.specs.Literal.{Literal}
use Rattle.lit_base.specs.declared.name.Name.{Name}
use Rattle.lit_base.specs.Rounds.{NamedClause}

-- whether two names are one
abbrev pub same_name : Name → Name → Bool
same_name a b = (a.period == b.period) && ((a.core == b.core) && (a.index == b.index))

-- the literals of the clause with this name
abbrev pub lits_at : List NamedClause → Name → Option (List Literal)
lits_at clauses name = option_map (λ c. c.lits) (find (λ c. same_name c.name name) clauses)
