-- Notes of a round: clauses that may be unit or falsified on its snapshot.
use Rattle.std.specs.Prelude.{◌≡◌, ℕ, ◌+◌, ◌==◌, ◌≤◌, ◌⊎◌, ◌&&◌, ◌++◌, set, filter, vec_capacity, ⊤, IsTrue, IsFalse, Bool, true, false, List, [], ◌∷◌, length, Option, Some, None, slice_get, if◌then◌else◌, option_map, find}
use Rattle.std.specs.List.{list_any, AllByRecursion}
use Rattle.lit_base.specs.Literal.{Literal}
use Rattle.lit_base.specs.Named.{lits_at, same_name}
use Rattle.lit_base.specs.Rounds.{NamedClause, with_unit}
use Rattle.lit_base.specs.Trail.{is_false}
use Rattle.lit_base.specs.Held.{is_before}
use Rattle.lit_base.specs.Fits.{IsImplied}
use Rattle.lit_base.specs.declared.trail.Entry.{Entry}
use Rattle.lit_base.specs.declared.name.Name.{Name}
use Rattle.round_prop.specs.declared.note.Note.{Note}
use Rattle.round_prop.specs.declared.noted.Noted.{Noted}

-- what a note tells of its clause: all its literals but this one are false, and it has none where there is no such one
abbrev pub Tells : List Entry → Option Literal → List Literal → Type 0
Tells trail None lits = lits ≡ []
Tells trail (Some l) lits = IsImplied trail l lits

-- the note is of one of the clauses, and true of it
pub record IsNoteOf (trail : List Entry) (clauses : List NamedClause) (note : Note) : Type 0 where
  pub lits : List Literal
  pub found : lits_at clauses note.name ≡ Some lits
  pub tells : Tells trail note.lit lits

-- the notes are true on the trail
abbrev pub AreNotesOf : List Entry → List NamedClause → List Note → Type 0
AreNotesOf trail clauses notes = AllByRecursion (IsNoteOf trail clauses) notes

-- a note of this name is there
abbrev pub IsNoted : List Note → Name → Type 0
IsNoted notes name = IsTrue (list_any (λ n. same_name n.name name) notes)

-- whether a note is of this row, under this name
abbrev pub is_of_row : ℕ → Name → Note → Bool
is_of_row row name n = (n.row == row) && same_name n.name name

-- a note of a row is there, under this name
abbrev pub HasNote : List Note → ℕ → Name → Type 0
HasNote notes row name = IsTrue (list_any (is_of_row row name) notes)

-- for each row whose flag is set a note is there
abbrev pub AreFlagged : List Name → List Bool → List Note → Type 0
AreFlagged names flags notes = (row : ℕ) (name : Name) → slice_get names row ≡ Some name → slice_get flags row ≡ Some true → HasNote notes row name

-- how many flags are clear
abbrev pub clear_count : List Bool → ℕ
clear_count [] = 0
clear_count (flag ∷ later) = (if flag then 0 else 1) + clear_count later

-- the notes that are there, and one more for each row without a flag: for so many there has to be room
abbrev pub load_of : List Note → List Bool → ℕ
load_of notes flags = length notes + clear_count flags

-- whether all the literals of a note's clause are false
abbrev pub is_lost : List Entry → Option Literal → Bool
is_lost trail None = true
is_lost trail (Some l) = is_false trail l

-- the name of the first note whose clause is falsified
abbrev pub conflict_in : List Entry → List Note → Option Name
conflict_in trail notes = option_map (λ (n : Note). n.name) (find (λ (n : Note). is_lost trail n.lit) notes)

-- the trail after the notes' literals are implied in order, each where its variable is still free
abbrev pub with_noted : List Note → List Entry → List Entry
with_noted [] trail = trail
with_noted (n ∷ later) trail = with_noted later (with_unit n.name n.lit trail)

-- no note stands before one of a lesser name
abbrev pub AreInOrder : List Note → Type 0
AreInOrder [] = ⊤
AreInOrder (n ∷ later) = AllByRecursion (λ (m : Note). IsFalse (is_before m.name n.name)) later × AreInOrder later

-- a row's note comes in, unless its flag is set
abbrev pub IsAdded : List Bool → List Note → List Bool → List Note → Note → Type 0
IsAdded flags notes flags-after notes-after note =
    ((slice_get flags note.row ≡ Some true) × (notes-after ≡ notes) × (flags-after ≡ flags))
    ⊎ ((slice_get flags note.row ≡ Some false) × (notes-after ≡ notes ++ note ∷ []) × (flags-after ≡ set flags note.row true))

-- the flags, where those of the notes whose clauses aren't falsified are cleared
abbrev pub flags_after : List Entry → List Note → List Bool → List Bool
flags_after trail [] flags = flags
flags_after trail (n ∷ later) flags = flags_after trail later (if is_lost trail n.lit then flags else set flags n.row false)

-- the flags, where those of the notes are cleared
abbrev pub flags_without : List Note → List Bool → List Bool
flags_without [] flags = flags
flags_without (n ∷ later) flags = flags_without later (set flags n.row false)

-- the notes whose clauses are falsified
abbrev pub lost_notes : List Entry → List Note → List Note
lost_notes trail notes = filter (λ (n : Note). is_lost trail n.lit) notes

-- what was noted stays so, notes have come in that are true, and room for more is left
pub record HasMoreNotes (trail : List Entry) (clauses : List NamedClause) (names : List Name) (before after : Noted) : Type 0 where
  pub kept : (name : Name) → IsNoted before.notes.items name → IsNoted after.notes.items name
  pub sound : AreNotesOf trail clauses before.notes.items → AreNotesOf trail clauses after.notes.items
  pub flagged : AreFlagged names before.flags.items before.notes.items → AreFlagged names after.flags.items after.notes.items
  pub load : load_of after.notes.items after.flags.items ≤ load_of before.notes.items before.flags.items
  pub flags : length after.flags.items ≡ length before.flags.items
  pub notes_room : vec_capacity after.notes ≡ vec_capacity before.notes
  pub flags_room : vec_capacity after.flags ≡ vec_capacity before.flags
