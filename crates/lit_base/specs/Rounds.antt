-- Unit propagation in rounds, each over one snapshot of the trail, to a fixed point or a conflict
-- (unit propagation: Davis, Logemann and Loveland 1962; the order by rounds and names is this product's own).
use Rattle.std.specs.Prelude.{ℕ, zero, suc, ◌+◌, ◌==◌, Bool, not, ◌&&◌, ◌||◌, List, [], ◌∷◌, length, Option, Some, None, is_some, if◌then◌else◌, find, option_map}
use Rattle.std.specs.List.{list_all}
use Rattle.lit_base.specs.Literal.{Literal, same}
use Rattle.lit_base.specs.Cnf.{Cnf}
use Rattle.lit_base.specs.declared.trail.Entry.{Entry}
use Rattle.lit_base.specs.declared.name.Name.{Name}
use Rattle.lit_base.specs.Trail.{is_false, is_free, level_now}

-- a clause and its name; a list of them stands by rising names
pub record NamedClause : Type 0 where
  pub name : Name
  pub lits : List Literal

-- the name of the original at this place, counted from 0
abbrev pub original : ℕ → Name
original index = record { period = 0; core = 0; index = index }

-- clauses named as originals, from this place on
abbrev pub named_from : ℕ → List (List Literal) → List NamedClause
named_from index [] = []
named_from index (lits ∷ others) = record { name = original index; lits = lits } ∷ named_from (index + 1) others

-- the clauses of a formula under their names
abbrev pub originals : Cnf → List NamedClause
originals cnf = named_from 0 cnf.clauses

-- a clause is falsified where all its literals are false
abbrev pub is_falsified : List Entry → List Literal → Bool
is_falsified trail lits = list_all (is_false trail) lits

-- the literal, where it is free and each other literal of the clause is false or the same
abbrev pub only_free : List Entry → List Literal → Option Literal → Option Literal
only_free trail lits None = None
only_free trail lits (Some l) =
    if is_free trail l.variable && list_all (λ m. is_false trail m || same m l) lits then Some l else None

-- the one free literal of a unit clause: no literal is true, and all others are false
abbrev pub unit_of : List Entry → List Literal → Option Literal
unit_of trail lits = only_free trail lits (find (λ l. not (is_false trail l)) lits)

-- the least name of a falsified clause
abbrev pub conflict_of : List Entry → List NamedClause → Option Name
conflict_of trail clauses = option_map (λ c. c.name) (find (λ c. is_falsified trail c.lits) clauses)

-- the trail with this literal at the current level, where its variable is still free
abbrev pub with_unit : Name → Option Literal → List Entry → List Entry
with_unit name None trail = trail
with_unit name (Some l) trail =
    if is_free trail l.variable then record { lit = l; level = level_now trail; reason = Some name } ∷ trail else trail

-- the units of the snapshot, added to the trail in the order of names
abbrev pub with_units : List Entry → List NamedClause → List Entry → List Entry
with_units snapshot [] trail = trail
with_units snapshot (c ∷ others) trail = with_units snapshot others (with_unit c.name (unit_of snapshot c.lits) trail)

-- where propagation ends: the trail, and the name of the conflict, or none at a fixed point
pub record Propagated : Type 0 where
  pub trail : List Entry
  pub conflict : Option Name

-- what a round over the snapshot answers, from the conflict in it
abbrev pub round_by : List NamedClause → List Entry → Option Name → Propagated
round_by clauses snapshot (Some name) = record { trail = snapshot; conflict = Some name }
round_by clauses snapshot None = record { trail = with_units snapshot clauses snapshot; conflict = None }

-- one round: the conflict of least name, else the snapshot with all its units
abbrev pub round : List NamedClause → List Entry → Propagated
round clauses snapshot = round_by clauses snapshot (conflict_of snapshot clauses)

-- a round ends propagation where it meets a conflict or adds nothing
abbrev pub is_last : List Entry → Propagated → Bool
is_last snapshot r = is_some r.conflict || (length r.trail == length snapshot)

-- rounds up to the first that ends, or as many as the first argument says; then whether a conflict stands there
abbrev pub rounds : ℕ → List NamedClause → List Entry → Propagated
rounds zero clauses trail = record { trail = trail; conflict = conflict_of trail clauses }
rounds (suc most) clauses trail =
    let r = round clauses trail in if is_last trail r then r else rounds most clauses r.trail

-- rounds to the end: one more than there are variables always suffice
abbrev pub propagate : ℕ → List NamedClause → List Entry → Propagated
propagate variables clauses trail = rounds (variables + 1) clauses trail
