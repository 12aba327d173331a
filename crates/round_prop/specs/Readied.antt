-- Rows of linked clauses, in the midst of a round and when it is over.
use Rattle.std.specs.Prelude.{◌≡◌, ◌⊎◌, ◌*◌, ◌+◌, ◌-◌, ◌/◌, ◌%◌, ℕ, ◌≤◌, IsTrue, true, List, length, map, drop, Some, slice_get, vec_capacity, if◌then◌else◌, ◌==◌}
use Rattle.std.specs.List.{list_any, AllByRecursion}
use Rattle.lit_base.specs.Literal.{Literal}
use Rattle.lit_base.specs.Trail.{is_true}
use Rattle.lit_base.specs.Named.{lits_at}
use Rattle.lit_base.specs.Held.{is_among}
use Rattle.lit_base.specs.Rounds.{NamedClause}
use Rattle.lit_base.specs.declared.trail.Entry.{Entry}
use Rattle.lit_base.specs.declared.name.Name.{Name}
use Rattle.round_prop.specs.declared.note.Note.{Note}
use Rattle.round_prop.specs.declared.row.Row.{Row}
use Rattle.round_prop.specs.declared.table.Table.{Table}
use Rattle.round_prop.specs.Chains.{lits_of, AreThreaded}
use Rattle.round_prop.specs.Linked.{IsPair, IsGuarded, IsLinked, IsPending}
use Rattle.round_prop.specs.Noting.{IsNoted, AreNotesOf, AreFlagged, load_of}

-- the names of rows
abbrev pub row_names : List Row → List Name
row_names rows = map (λ (r : Row). r.name) rows

-- the other node of a node's row
abbrev pub flip : ℕ → ℕ
flip n = if n % 2 == 0 then n + 1 else n - 1

-- a row is right for the entries that are done: its clause is linked, and guarded or noted, or it will be met by a later entry
pub record IsRow (clauses : List NamedClause) (trail done : List Entry) (notes : List Note) (name : Name) (a b : Literal) : Type 0 where
  pub lits : List Literal
  pub found : lits_at clauses name ≡ Some lits
  pub pair : IsPair lits a b
  pub met : (IsLinked trail lits a b × (IsGuarded trail a b ⊎ IsNoted notes name)) ⊎ IsPending trail done lits a b

-- at each node the row is right
abbrev pub AreRows : List NamedClause → List Entry → List Entry → List Note → List Name → List Literal → Type 0
AreRows clauses trail done notes names lits =
    (n : ℕ) (name : Name) (a b : Literal) → slice_get names (n / 2) ≡ Some name → slice_get lits n ≡ Some a → slice_get lits (flip n) ≡ Some b →
    IsRow clauses trail done notes name a b

-- two nodes for each row, and a flag
pub record AreSized (t : Table) : Type 0 where
  pub nodes : length t.links.nodes.items ≡ 2 * length t.rows.items
  pub flags : length t.noted.flags.items ≡ length t.rows.items

-- a table in which each row is threaded into the lists of its two literals, and right
pub record IsTable (clauses : List NamedClause) (trail done : List Entry) (t : Table) : Type 0 where
  pub sized : AreSized t
  pub threaded : AreThreaded t.links.heads.items t.links.nodes.items
  pub rows : AreRows clauses trail done t.noted.notes.items (row_names t.rows.items) (lits_of t.links.nodes.items)
  pub flagged : AreFlagged (row_names t.rows.items) t.noted.flags.items t.noted.notes.items
  pub sound : AreNotesOf trail clauses t.noted.notes.items

-- the clause stands in a row, or is noted, or has a true literal
abbrev pub IsCovered : List Entry → List Note → List Name → NamedClause → Type 0
IsCovered trail notes names c = IsTrue (is_among names c.name) ⊎ (IsNoted notes c.name ⊎ (list_any (is_true trail) c.lits ≡ true))

-- each clause is covered
abbrev pub AreCovered : List NamedClause → List Entry → Table → Type 0
AreCovered clauses trail t = AllByRecursion (IsCovered trail t.noted.notes.items (row_names t.rows.items)) clauses

-- no two rows have one name
abbrev pub AreNamedApart : List Name → Type 0
AreNamedApart names = (i j : ℕ) (name : Name) → slice_get names i ≡ Some name → slice_get names j ≡ Some name → i ≡ j

-- a table from which propagation may go on: all clauses are covered, there is a list for each literal, and room for the notes
pub record IsReady (variables : ℕ) (clauses : List NamedClause) (trail done : List Entry) (t : Table) : Type 0 where
  pub table : IsTable clauses trail done t
  pub covered : AreCovered clauses trail t
  pub apart : AreNamedApart (row_names t.rows.items)
  pub wide : length t.links.heads.items ≡ 2 * variables + 2
  pub room : load_of t.noted.notes.items t.noted.flags.items ≤ vec_capacity t.noted.notes

-- the tables have the same rows, and the same room
pub record HaveSameRows (before after : Table) : Type 0 where
  pub rows : after.rows.items ≡ before.rows.items
  pub heads : length after.links.heads.items ≡ length before.links.heads.items
  pub nodes : length after.links.nodes.items ≡ length before.links.nodes.items
  pub flags : length after.noted.flags.items ≡ length before.noted.flags.items
  pub load : load_of after.noted.notes.items after.noted.flags.items ≤ load_of before.noted.notes.items before.noted.flags.items
  pub rows_room : vec_capacity after.rows ≡ vec_capacity before.rows
  pub nodes_room : vec_capacity after.links.nodes ≡ vec_capacity before.links.nodes
  pub notes_room : vec_capacity after.noted.notes ≡ vec_capacity before.noted.notes
  pub flags_room : vec_capacity after.noted.flags ≡ vec_capacity before.noted.flags

-- the oldest entries of a trail, so many
abbrev pub oldest : ℕ → List Entry → List Entry
oldest n trail = drop (length trail - n) trail

-- the tables have as many lists, and the same room
pub record IsRoomKept (before after : Table) : Type 0 where
  pub heads : length after.links.heads.items ≡ length before.links.heads.items
  pub rows_room : vec_capacity after.rows ≡ vec_capacity before.rows
  pub nodes_room : vec_capacity after.links.nodes ≡ vec_capacity before.links.nodes
  pub notes_room : vec_capacity after.noted.notes ≡ vec_capacity before.noted.notes
  pub flags_room : vec_capacity after.noted.flags ≡ vec_capacity before.noted.flags
