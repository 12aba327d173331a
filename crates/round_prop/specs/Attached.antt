-- Clauses that are attached for propagation.
use Rattle.std.specs.Prelude.{◌≡◌, ◌⊎◌, ◌++◌, ◌+◌, ◌*◌, ◌≤◌, ℕ, IsTrue, IsFalse, IsSome, true, Option, None, List, [], length, vec_capacity, vec_len, if◌then◌else◌}
use Rattle.std.specs.List.{AllByRecursion, IsDistinct, list_any}
use Rattle.lit_base.specs.Literal.{Literal}
use Rattle.lit_base.specs.Trail.{is_true}
use Rattle.lit_base.specs.Rounds.{NamedClause}
use Rattle.lit_base.specs.Named.{same_name, lits_at}
use Rattle.lit_base.specs.Held.{is_among, names_of, AreRisingBy}
use Rattle.lit_base.specs.Fits.{HasDistinctVariables}
use Rattle.lit_base.specs.Quiet.{IsQuiet}
use Rattle.lit_base.specs.declared.trail.Entry.{Entry}
use Rattle.lit_base.specs.declared.name.Name.{Name}
use Rattle.round_prop.specs.Chains.{no_node}
use Rattle.round_prop.specs.Noting.{IsNoted, AreFlagged, load_of}
use Rattle.round_prop.specs.Readied.{row_names, AreSized, IsTable, AreNamedApart}
use Rattle.round_prop.specs.Shorts.{short_names, IsShortOf}
use Rattle.round_prop.specs.declared.short.Short.{Short}
use Rattle.round_prop.specs.declared.table.Table.{Table}

-- what attached clauses are to contracts: of its fields other crates read `variables` alone, and learn the rest by `IsAttached`
pub record RoundsState : Type 0 where
  -- each trail has so many variables
  pub variables : ℕ
  -- the clauses that stand in rows, linked, with what is noted of them and of the short ones
  pub table : Table
  -- the short clauses
  pub shorts : List Short
  -- the clauses that were attached since the last propagation ended, the newest first, each with the literals that the pool gave when it was attached
  pub fresh : List NamedClause
  -- the clauses over which the last propagation went
  pub propagated : List NamedClause
  -- the entries that were seen by then or at the last jump
  pub seen : List Entry

-- what is attached under a name: a fresh clause, or one of those that stand in a row or are short, as the last propagation saw it
abbrev pub lits_in : RoundsState → Name → Option (List Literal)
lits_in r name =
    if is_among (names_of r.fresh) name then lits_at r.fresh name
    else (if is_among (row_names r.table.rows.items ++ short_names r.shorts) name then lits_at r.propagated name else None)

-- a clause is fresh, or it stands in a row, or it is short, and then noted or true
abbrev pub IsKnown : List Entry → Table → List Short → List Name → NamedClause → Type 0
IsKnown trail t shorts fresh c =
    IsTrue (is_among fresh c.name)
    ⊎ (IsTrue (is_among (row_names t.rows.items) c.name)
    ⊎ (IsTrue (is_among (short_names shorts) c.name) × (IsNoted t.noted.notes.items c.name ⊎ (list_any (is_true trail) c.lits ≡ true))))

-- the clauses are those that stand in rows, right for the entries that are done, the short ones and the fresh ones
pub record AreAttachedIn (clauses : List NamedClause) (trail done : List Entry) (t : Table) (shorts : List Short) (fresh : List Name) : Type 0 where
  pub rising : AreRisingBy (λ (c : NamedClause). c.name) clauses
  pub table : IsTable clauses trail done t
  pub apart : AreNamedApart (row_names t.rows.items)
  pub short : AllByRecursion (IsShortOf clauses) shorts
  pub known : AllByRecursion (IsKnown trail t shorts fresh) clauses
  pub fresh_found : AllByRecursion (λ name. IsSome (lits_at clauses name)) fresh
  pub fresh_apart : IsDistinct same_name fresh
  pub fresh_new : AllByRecursion (λ name. IsFalse (is_among (row_names t.rows.items) name)) fresh

-- the same of what propagation keeps, on the entries that were seen
pub record IsAttachedBy (r : RoundsState) (attached : List NamedClause) (fresh : List Name) (seen : List Entry) : Type 0 where
  pub fresh_are : names_of r.fresh ≡ fresh
  pub seen_are : r.seen ≡ seen
  pub found : (name : Name) → lits_at attached name ≡ lits_in r name
  pub distinct : HasDistinctVariables seen
  pub are : AreAttachedIn attached seen seen r.table r.shorts fresh

-- these clauses are attached, each with the literals that the pool gave when it was attached; these names of them were
-- attached since the last propagation ended, the newest first; and these entries were seen by then or at the last jump
unfoldable pub IsAttached : RoundsState → List NamedClause → List Name → List Entry → Type 0
IsAttached r attached fresh seen = IsAttachedBy r attached fresh seen

-- the clauses are attached, and the entries seen are an older part of the trail
pub record IsAttachedTo (r : RoundsState) (clauses : List NamedClause) (trail : List Entry) : Type 0 where
  pub fresh : List Name
  pub seen : List Entry
  pub newer : List Entry
  pub attached : IsAttached r clauses fresh seen
  pub older : trail ≡ newer ++ seen

-- clauses are attached, and none under this name
pub record IsNewTo (r : RoundsState) (name : Name) : Type 0 where
  pub attached : List NamedClause
  pub fresh : List Name
  pub seen : List Entry
  pub is : IsAttached r attached fresh seen
  pub new : lits_at attached name ≡ None

-- a clause is attached under each of these names, which are distinct
pub record AreAttachedNames (r : RoundsState) (names : List Name) : Type 0 where
  pub attached : List NamedClause
  pub fresh : List Name
  pub seen : List Entry
  pub is : IsAttached r attached fresh seen
  pub found : AllByRecursion (λ name. IsSome (lits_at attached name)) names
  pub distinct : IsDistinct same_name names

-- the trail is empty, or no attached clause but the fresh ones is unit or falsified on it
abbrev pub IsSettled : List Entry → List NamedClause → List Name → Type 0
IsSettled trail attached fresh = (trail ≡ []) ⊎ AllByRecursion (λ c. IsFalse (is_among fresh c.name) → IsQuiet trail c.lits) attached

-- two nodes and a flag for each row, a list for each literal, a note for each flag that is set, and room: for the fresh
-- clauses as rows or short ones, for a note of each, and for one of each clause where all notes have gone
pub record AreRoomy (variables : ℕ) (t : Table) (shorts most_shorts fresh : ℕ) : Type 0 where
  pub sized : AreSized t
  pub flagged : AreFlagged (row_names t.rows.items) t.noted.flags.items t.noted.notes.items
  pub wide : length t.links.heads.items ≡ 2 * variables + 2
  pub few : vec_len t.links.nodes + 2 * fresh ≤ no_node
  pub rows_room : vec_len t.rows + fresh ≤ vec_capacity t.rows
  pub nodes_room : vec_len t.links.nodes + 2 * fresh ≤ vec_capacity t.links.nodes
  pub flags_room : vec_len t.noted.flags + fresh ≤ vec_capacity t.noted.flags
  pub notes_room : load_of t.noted.notes.items t.noted.flags.items + fresh ≤ vec_capacity t.noted.notes
  pub notes_anew : vec_len t.rows + shorts + fresh ≤ vec_capacity t.noted.notes
  pub shorts_room : shorts + fresh ≤ most_shorts
