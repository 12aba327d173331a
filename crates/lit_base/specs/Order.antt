-- What a round of propagation answers and adds, by the order of the clauses' names.
use Rattle.std.specs.Prelude.{⊤, ◌==◌, ◌≡◌, IsTrue, IsFalse, Bool, false, not, ◌&&◌, List, [], ◌∷◌, ◌++◌, Option, Some, None}
use Rattle.std.specs.List.{list_any, AllByRecursion}
use Rattle.lit_base.specs.Literal.{Literal}
use Rattle.lit_base.specs.Trail.{level_now}
use Rattle.lit_base.specs.Rounds.{NamedClause, is_falsified, unit_of}
use Rattle.lit_base.specs.Named.{lits_at}
use Rattle.lit_base.specs.Held.{is_before}
use Rattle.lit_base.specs.Fits.{IsConflict}
use Rattle.lit_base.specs.declared.trail.Entry.{Entry}
use Rattle.lit_base.specs.declared.name.Name.{Name}

-- a falsified clause of the list, such that no falsified one has a lesser name
pub record IsLeastConflict (trail : List Entry) (clauses : List NamedClause) (name : Name) : Type 0 where
  pub falsified : IsConflict (lits_at clauses) trail name
  pub least : AllByRecursion (λ c. IsTrue (is_falsified trail c.lits) → IsFalse (is_before c.name name)) clauses

-- the entry's literal is that of a clause of the list that is unit on the snapshot; the clause is the reason, and the level the present one
pub record IsUnitEntry (snapshot : List Entry) (clauses : List NamedClause) (e : Entry) : Type 0 where
  pub name : Name
  pub lits : List Literal
  pub reason : e.reason ≡ Some name
  pub found : lits_at clauses name ≡ Some lits
  pub unit : unit_of snapshot lits ≡ Some e.lit
  pub level : e.level ≡ level_now snapshot

-- whether a reason is there and stands before a name
abbrev pub is_reason_before : Option Name → Name → Bool
is_reason_before None name = false
is_reason_before (Some reason) name = is_before reason name

-- whether a reason is there and does not stand behind a name
abbrev pub is_reason_up_to : Option Name → Name → Bool
is_reason_up_to None name = false
is_reason_up_to (Some reason) name = not (is_before name reason)

-- the reasons stand before that of a newer entry
abbrev pub AreReasonsBefore : List Entry → Option Name → Type 0
AreReasonsBefore older None = ⊤
AreReasonsBefore older (Some name) = AllByRecursion (λ e. IsTrue (is_reason_before e.reason name)) older

-- read from the oldest entry on, the names of the reasons rise
abbrev pub HaveRisingReasons : List Entry → Type 0
HaveRisingReasons [] = ⊤
HaveRisingReasons (e ∷ older) = AreReasonsBefore older e.reason × HaveRisingReasons older

-- the variable of a unit clause of this name stands among the entries, for a reason of this name or a lesser one
abbrev pub IsTaken : List Entry → Name → Option Literal → Type 0
IsTaken added name None = ⊤
IsTaken added name (Some l) = IsTrue (list_any (λ e. (e.lit.variable == l.variable) && is_reason_up_to e.reason name) added)

-- the trail grew by units of the snapshot in the order of names, each for the unit clause of least name, and no unit was left out
pub record AddsUnits (snapshot : List Entry) (clauses : List NamedClause) (after : List Entry) : Type 0 where
  pub added : List Entry
  pub front : after ≡ added ++ snapshot
  pub units : AllByRecursion (IsUnitEntry snapshot clauses) added
  pub rising : HaveRisingReasons added
  pub taken : AllByRecursion (λ c. IsTaken added c.name (unit_of snapshot c.lits)) clauses
