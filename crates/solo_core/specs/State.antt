-- What a core is at one moment, as contracts see it.
use Rattle.std.specs.Prelude.{ℕ, Bool, List, map, Option}
use Rattle.lit_base.specs.Rounds.{NamedClause}
use Rattle.lit_base.specs.Held.{HeldClause}
use Rattle.lit_base.specs.declared.trail.Entry.{Entry}
use Rattle.lit_base.specs.declared.name.Name.{Name}
use Rattle.round_prop.specs.Attached.{RoundsState}
use Rattle.var_order.specs.Order.{OrderState}
use Rattle.tempo.specs.Tempo.{TempoState}
use Rattle.core_rows.specs.declared.row.Row.{Row}
use Rattle.solo_core.specs.declared.lemma.Lemma.{Lemma}
use Rattle.solo_core.specs.declared.sheet.End.{End}

-- == the rules of a core: what never changes of it, and what a turn changes ==

-- what never changes of a core
pub record CoreFrame : Type 0 where
  -- the variables of its formula
  pub variables : ℕ
  -- its own number, from 0
  pub core : ℕ
  -- the literals that a clause which it posts has at most
  pub share : ℕ
  -- the conflicts that it may have in the whole run
  pub limit : ℕ
  -- its row: the settings by which it differs from the other cores
  pub row : Row

-- what a core has
pub record CoreState : Type 0 where
  -- the number of the period that it is in, from 1
  pub period : ℕ
  -- the clauses that it holds, by rising names
  pub clauses : List HeldClause
  -- its trail, the newest entry first
  pub trail : List Entry
  -- for each variable from 1 on the value that it had when it last left the trail
  pub saved : List (Option Bool)
  -- its conflicts in the whole run so far
  pub conflicts : ℕ
  -- those of them that it had in this period
  pub period_conflicts : ℕ
  -- the lemmas of this period, the oldest first
  pub lemmas : List Lemma
  -- for each variable from 1 on its activity
  pub activities : List ℕ
  -- which conflict makes the next restart due
  pub tempo : TempoState
  -- the reductions that it made in the whole run
  pub reductions : ℕ

-- == the search that follows these rules, and the core around it ==

-- a search
pub record SearchState : Type 0 where
  pub frame : CoreFrame
  pub state : CoreState
  -- the held clauses without their uses, as they were added, the newest first
  pub added : List NamedClause
  -- what propagation keeps; only its own crate knows what that is
  pub rounds : RoundsState
  -- for how many variables conflict analysis has room
  pub analyser : ℕ
  -- for each variable from 1 on whether it is in the order from which variables are picked
  pub present : List Bool

-- the order of variables that a search picks from
abbrev pub order_of : SearchState → OrderState
order_of s = record { activities = s.state.activities; present = s.present }

-- a core
pub record CoreValue : Type 0 where
  pub frame : CoreFrame
  pub state : CoreState
  -- how its stretch of this period ended, if it was made
  pub ended : Option End
  -- whether its sheet of this period was given
  pub is_handed : Bool
  -- whether memory was refused to it
  pub is_broken : Bool

-- == lemmas under their names ==

-- the name of the lemma at this place, counted from 0, among those of the period
abbrev pub lemma_name : ℕ → ℕ → ℕ → Name
lemma_name period core index = record { period = period; core = core; index = index }

-- a lemma as a clause under its name
abbrev pub lemma_clause : Lemma → NamedClause
lemma_clause lemma = record { name = lemma.name; lits = lemma.lits }

-- lemmas as clauses under their names
abbrev pub lemma_clauses : List Lemma → List NamedClause
lemma_clauses lemmas = map lemma_clause lemmas
