-- The held clauses of a pool: originals by their index, and others by their name.
use Rattle.std.specs.Prelude.{ℕ, ◌==◌, nat_lt, Bool, ◌&&◌, List, [], ◌∷◌, length}
use Rattle.lit_base.specs.Literal.{Literal}
use Rattle.lit_base.specs.Rounds.{original}
use Rattle.lit_base.specs.Held.{HeldClause, clauses_of, with_clause}
use Rattle.lit_base.specs.declared.name.Name.{Name}
use Rattle.clause_pool.specs.Slots.{row_names, AreApart}
use Rattle.clause_pool.specs.Rising.{HaveDistinctLits}

-- clauses by rising names
abbrev pub held_of : List HeldClause → List HeldClause
held_of [] = []
held_of (c ∷ older) = with_clause c (held_of older)

-- the originals of these literals, the newest first: the oldest has the index 0
abbrev pub originals_of : List (List Literal) → List HeldClause
originals_of [] = []
originals_of (lits ∷ older) = record { name = original (length older); lits = lits; uses = 0 } ∷ originals_of older

-- whether a name is that of one of the first originals
abbrev pub is_front : ℕ → Name → Bool
is_front count name = (name.period == 0) && ((name.core == 0) && nat_lt name.index count)

-- no name stands twice, and the literals of each clause are distinct
pub record IsPool (rows : List HeldClause) : Type 0 where
  pub apart : AreApart (row_names rows)
  pub distinct : HaveDistinctLits (clauses_of (held_of rows))
