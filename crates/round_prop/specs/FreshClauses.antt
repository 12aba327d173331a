-- Clauses that were attached since the last propagation ended.
use Rattle.std.specs.Prelude.{List, [], Option, Some, None, map, reverse}
use Rattle.lit_base.specs.Literal.{Literal}
use Rattle.lit_base.specs.Rounds.{NamedClause}
use Rattle.lit_base.specs.Named.{lits_at}
use Rattle.lit_base.specs.Held.{clauses_of}
use Rattle.lit_base.specs.declared.name.Name.{Name}
use Rattle.round_prop.specs.declared.fresh.Fresh.{Fresh}

-- the literals that were found, and none where nothing was
abbrev pub found_lits : Option (List Literal) → List Literal
found_lits None = []
found_lits (Some lits) = lits

-- a fresh clause, with the literals that the pool gave when it was attached
abbrev pub clause_of_fresh : Fresh → NamedClause
clause_of_fresh f = record { name = f.name; lits = found_lits (lits_at (clauses_of f.pool.value.held) f.name) }

-- fresh clauses, the newest first, where the newest stands last
abbrev pub clauses_of_fresh : List Fresh → List NamedClause
clauses_of_fresh fresh = map clause_of_fresh (reverse fresh)

-- the names of fresh clauses, the newest first, where the newest stands last
abbrev pub fresh_names : List Fresh → List Name
fresh_names fresh = map (λ (f : Fresh). f.name) (reverse fresh)
