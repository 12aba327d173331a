-- How often the held clauses were hints.
use Rattle.std.specs.Prelude.{ℕ, List, map, Option, option_map, find}
use Rattle.lit_base.specs.Named.{same_name}
use Rattle.lit_base.specs.Held.{HeldClause}
use Rattle.lit_base.specs.declared.name.Name.{Name}

-- the uses of the clause with this name
abbrev pub uses_of : List HeldClause → Name → Option ℕ
uses_of held name = option_map (λ c. c.uses) (find (λ c. same_name c.name name) held)

-- a clause with its uses counted anew
abbrev pub without_uses : HeldClause → HeldClause
without_uses c = record c { uses = 0 }

-- the clauses with all uses counted anew
abbrev pub cleared : List HeldClause → List HeldClause
cleared held = map without_uses held
