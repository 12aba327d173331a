-- Changes of a core that keep what is sound: any free variable may be decided, any clause that is no reason dropped, any
-- clause added at level 0, and uses counted as one likes.
use Rattle.std.specs.Prelude.{⊤, IsFalse, List, [], ◌∷◌, Option, Some, None}
use Rattle.lit_base.specs.Rounds.{NamedClause}
use Rattle.lit_base.specs.Held.{HeldClause, unused, with_clause, is_among, without_names}
use Rattle.lit_base.specs.declared.trail.Entry.{Entry}
use Rattle.lit_base.specs.declared.name.Name.{Name}
use Rattle.solo_core.specs.State.{CoreFrame, CoreState}
use Rattle.solo_core.specs.Turn.{propagated}

-- the state after propagation
abbrev pub after_propagation : CoreFrame → CoreState → CoreState
after_propagation frame state = record state { trail = (propagated frame state).trail }

-- the state with these clauses in place of those that it holds
abbrev pub with_clauses : List HeldClause → CoreState → CoreState
with_clauses held state = record state { clauses = held }

-- the state with a clause more, which has no uses
abbrev pub with_added : NamedClause → CoreState → CoreState
with_added c state = with_clauses (with_clause (unused c) state.clauses) state

-- the state without the clauses of these names
abbrev pub with_dropped : List Name → CoreState → CoreState
with_dropped names state = with_clauses (without_names names state.clauses) state

-- a reason that is none of these names
abbrev pub IsOther : List Name → Option Name → Type 0
IsOther names None = ⊤
IsOther names (Some reason) = IsFalse (is_among names reason)

-- no entry of the trail has one of these names as its reason
abbrev pub AreNoReasons : List Name → List Entry → Type 0
AreNoReasons names [] = ⊤
AreNoReasons names (e ∷ older) = IsOther names e.reason × AreNoReasons names older
