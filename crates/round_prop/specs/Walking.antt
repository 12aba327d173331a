-- In the midst of a walk over the list of a literal that has become false.
use Rattle.std.specs.Prelude.{◌≡◌, ◌⊎◌, ◌+◌, ◌*◌, ◌/◌, ◌≤◌, ◌<◌, ℕ, List, length, Some, slice_get}
use Rattle.lit_base.specs.Literal.{Literal}
use Rattle.lit_base.specs.Named.{lits_at}
use Rattle.lit_base.specs.Rounds.{NamedClause}
use Rattle.lit_base.specs.declared.trail.Entry.{Entry}
use Rattle.lit_base.specs.declared.name.Name.{Name}
use Rattle.trail_book.specs.Arrays.{index_of}
use Rattle.round_prop.specs.declared.node.Node.{Node}
use Rattle.round_prop.specs.declared.note.Note.{Note}
use Rattle.round_prop.specs.declared.table.Table.{Table}
use Rattle.round_prop.specs.Chains.{nexts_of, lits_of, list_at, times_in, times, total, last_of, in_place, AreLists}
use Rattle.round_prop.specs.Linked.{IsPair, IsStep}
use Rattle.round_prop.specs.Noting.{AreFlagged}
use Rattle.round_prop.specs.Readied.{row_names, flip, IsRow, IsTable}

-- the clause of the name is there, and these are two literals of it
pub record HasPair (clauses : List NamedClause) (name : Name) (a b : Literal) : Type 0 where
  pub lits : List Literal
  pub found : lits_at clauses name ≡ Some lits
  pub pair : IsPair lits a b

-- a node stands in the list of a literal
abbrev pub IsInList : List (List ℕ) → Literal → ℕ → Type 0
IsInList lists l n = times_in n (list_at lists (index_of l)) ≡ 1

-- the rows that are not met yet are right for the entries done, and the others for one entry more, by which `l` is false; what was
-- met and stays is in list 0, `last` of it the last, and stands in the arrays before what is left; at most `left` nodes are left, and
-- with them no more than `most` steps are taken
pub record IsWalkOf (clauses : List NamedClause) (trail done next : List Entry) (l : Literal) (left steps most last : ℕ)
    (heads : List ℕ) (nodes : List Node) (names : List Name) (notes : List Note) : Type 0 where
  pub sized : length nodes ≡ 2 * length names
  pub begun : 0 < length heads
  pub lists : List (List ℕ)
  pub long : length lists ≡ length heads
  pub once : (n : ℕ) → times n lists ≤ 1
  pub are : AreLists heads (nexts_of nodes) (in_place (index_of l) lists)
  pub stays : last ≡ last_of (list_at lists 0)
  pub placed : (n : ℕ) (a : Literal) → slice_get (lits_of nodes) n ≡ Some a → IsInList lists a n ⊎ ((a ≡ l) × (times_in n (list_at lists 0) ≡ 1))
  pub real : (n : ℕ) (a : Literal) → slice_get (lits_of nodes) n ≡ Some a → 1 ≤ index_of a
  pub all : total lists ≡ length nodes
  pub unmet : (n : ℕ) (name : Name) (b : Literal) → slice_get names (n / 2) ≡ Some name → slice_get (lits_of nodes) n ≡ Some l → slice_get (lits_of nodes) (flip n) ≡ Some b →
      IsInList lists l n → IsRow clauses trail done notes name l b
  pub rows : (n : ℕ) (name : Name) (a b : Literal) → slice_get names (n / 2) ≡ Some name → slice_get (lits_of nodes) n ≡ Some a → slice_get (lits_of nodes) (flip n) ≡ Some b →
      IsRow clauses trail next notes name a b ⊎ (((a ≡ l) × IsInList lists l n) ⊎ ((b ≡ l) × IsInList lists l (flip n)))
  pub few : length (list_at lists (index_of l)) ≤ left
  pub cheap : steps + length (list_at lists (index_of l)) ≤ most

-- the same of a table
abbrev pub IsWalk : List NamedClause → List Entry → List Entry → List Entry → Literal → ℕ → ℕ → ℕ → ℕ → Table → Type 0
IsWalk clauses trail done next l left steps most last t = IsWalkOf clauses trail done next l left steps most last t.links.heads.items t.links.nodes.items (row_names t.rows.items) t.noted.notes.items

-- a walk over the list of the literal is on
pub record IsInWalk (clauses : List NamedClause) (trail : List Entry) (l : Literal) (last : ℕ) (t : Table) : Type 0 where
  pub done : List Entry
  pub next : List Entry
  pub left : ℕ
  pub steps : ℕ
  pub most : ℕ
  pub step : IsStep trail done next l
  pub walk : IsWalk clauses trail done next l left steps most last t
  pub flagged : AreFlagged (row_names t.rows.items) t.noted.flags.items t.noted.notes.items

-- a walk over the list of the literal may begin
pub record MayWalk (clauses : List NamedClause) (trail : List Entry) (l : Literal) (t : Table) : Type 0 where
  pub done : List Entry
  pub next : List Entry
  pub step : IsStep trail done next l
  pub table : IsTable clauses trail done t
