-- Where the literals of clauses stand in those of all, laid end to end, and what a pool of clauses is.
use Rattle.std.specs.Prelude.{ℕ, ◌+◌, ◌==◌, List, [], ◌∷◌, ◌++◌, length, map, Option, Some, None, if◌then◌else◌}
use Rattle.lit_base.specs.Literal.{Literal}
use Rattle.lit_base.specs.Rounds.{NamedClause}
use Rattle.lit_base.specs.Named.{same_name}
use Rattle.lit_base.specs.Held.{HeldClause}
use Rattle.lit_base.specs.declared.name.Name.{Name}
use Rattle.clause_pool.specs.declared.span.Span.{Span}
use Rattle.clause_pool.specs.Arena.{literals_in}

-- the clauses by rising names; and the same clauses without their uses, as they were added, the newest first
pub record PoolState : Type 0 where
  pub held : List HeldClause
  pub added : List NamedClause

-- how many literals these clauses have
abbrev pub literals_of : List NamedClause → ℕ
literals_of [] = 0
literals_of (c ∷ older) = length c.lits + literals_of older

-- where the literals of a name's clause stand in those of all clauses, laid end to end in the order of adding
abbrev pub span_of : List NamedClause → Name → Option Span
span_of [] name = None
span_of (c ∷ older) name =
    if same_name c.name name then Some (record { start = literals_of older; end = literals_of older + length c.lits }) else span_of older name

-- where a part stands in all parts, laid end to end with the oldest first; its place is counted from the oldest
abbrev pub span_at : List (List Literal) → ℕ → Option Span
span_at [] place = None
span_at (lits ∷ older) place =
    if place == length older then Some (record { start = literals_in older; end = literals_in older + length lits }) else span_at older place

-- the literals of all parts, laid end to end with the oldest first
abbrev pub laid : List (List Literal) → List Literal
laid [] = []
laid (lits ∷ older) = laid older ++ lits

-- the literals of each clause
abbrev pub lits_of : List HeldClause → List (List Literal)
lits_of rows = map (λ c. c.lits) rows
