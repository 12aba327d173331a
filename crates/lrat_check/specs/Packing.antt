-- Parts that are moved from one arena to another.
use Rattle.std.specs.Prelude.{◌≡◌, List, length, ◌++◌, Option}
use Rattle.lit_base.specs.Literal.{Literal}
use Rattle.lrat_check.specs.declared.table.Span.{Span}
use Rattle.lrat_check.specs.Clauses.{lits_in, IsPart}

-- the new part lies within the packed arena, and has the literals that the old one has in the arena from before
pub record IsMoved (literals packed : List Literal) (old new : Option Span) : Type 0 where
  pub within : IsPart (length packed) new
  pub same : lits_in packed new ≡ lits_in literals old

-- an arena that got more literals behind those that it had
abbrev pub Grows : List Literal → List Literal → Type 0
Grows before after = (more : List Literal) × (after ≡ before ++ more)
