-- What is left of a table's rows when those of some names leave.
use Rattle.std.specs.Prelude.{◌≡◌, ◌+◌, ◌*◌, ◌≤◌, ℕ, zero, suc, nat_lt, Bool, not, List, [], ◌∷◌, length, filter, take, drop, get_or, if◌then◌else◌}
use Rattle.std.specs.List.{list_any}
use Rattle.std.specs.List.Sorted.{IsNonDecreasingBy}
use Rattle.std.specs.declared.cmp.Ordering.{Ordering}
use Rattle.std.specs.Ordering.{nat_cmp, ordering_then, ordering_index}
use Rattle.lit_base.specs.Rounds.{original}
use Rattle.lit_base.specs.Named.{same_name}
use Rattle.lit_base.specs.Held.{is_among}
use Rattle.lit_base.specs.declared.name.Name.{Name}
use Rattle.round_prop.specs.declared.note.Note.{Note}
use Rattle.round_prop.specs.declared.row.Row.{Row}
use Rattle.round_prop.specs.declared.table.Table.{Table}
use Rattle.round_prop.specs.Chains.{no_node}

-- whether a row stays when those of these names leave
abbrev pub stays : List Name → Row → Bool
stays names row = not (is_among names row.name)

-- the rows that stay
abbrev pub kept_rows : List Name → List Row → List Row
kept_rows names rows = filter (stays names) rows

-- of items, one for each row, those whose row stays
abbrev pub kept_items : {X : Type 0} → List Name → List Row → List X → List X
kept_items names [] items = []
kept_items names (row ∷ later) [] = []
kept_items names (row ∷ later) (x ∷ items) = if stays names row then x ∷ kept_items names later items else kept_items names later items

-- of items, two for each row, those whose row stays
abbrev pub kept_pairs : {X : Type 0} → List Name → List Row → List X → List X
kept_pairs names [] items = []
kept_pairs names (row ∷ later) [] = []
kept_pairs names (row ∷ later) (x ∷ []) = []
kept_pairs names (row ∷ later) (x ∷ y ∷ items) = if stays names row then x ∷ y ∷ kept_pairs names later items else kept_pairs names later items

-- the number of the first row of a name, where the rows are numbered from this one, and that of no row where there is none
abbrev pub row_of : Name → ℕ → List Row → ℕ
row_of name at [] = no_node
row_of name at (row ∷ later) = if same_name row.name name then at else row_of name (at + 1) later

-- a note of one of so many rows gets the row of its name
abbrev pub placed : List Row → ℕ → Note → Note
placed rows count note = if nat_lt note.row count then record note { row = row_of note.name 0 rows } else note

-- the first rows are done: those of them that stay stand in front, so many, and the later rows stand where they stood
pub record AreMoved (names : List Name) (before now : Table) (done kept : ℕ) : Type 0 where
  pub few : kept ≤ done
  pub rows_long : length now.rows.items ≡ length before.rows.items
  pub flags_long : length now.noted.flags.items ≡ length before.noted.flags.items
  pub nodes_long : length now.links.nodes.items ≡ length before.links.nodes.items
  pub rows_front : take kept now.rows.items ≡ kept_rows names (take done before.rows.items)
  pub flags_front : take kept now.noted.flags.items ≡ kept_items names (take done before.rows.items) before.noted.flags.items
  pub nodes_front : take (2 * kept) now.links.nodes.items ≡ kept_pairs names (take done before.rows.items) before.links.nodes.items
  pub rows_back : drop done now.rows.items ≡ drop done before.rows.items
  pub flags_back : drop done now.noted.flags.items ≡ drop done before.noted.flags.items
  pub nodes_back : drop (2 * done) now.links.nodes.items ≡ drop (2 * done) before.links.nodes.items

-- the name of a number, and the first original's past the end
abbrev pub name_at : List Name → ℕ → Name
name_at names at = get_or names at (original 0)

-- names in the order in which they are compared
abbrev pub name_order : Name → Name → Ordering
name_order a b = ordering_then (nat_cmp a.period b.period) (ordering_then (nat_cmp a.core b.core) (nat_cmp a.index b.index))

-- so many numbers that rise by 1
abbrev pub numbers_from : ℕ → ℕ → List ℕ
numbers_from at zero = []
numbers_from at (suc count) = at ∷ numbers_from (at + 1) count

-- the numbers of all names, by which the names rise
pub record IsIndexOf (names : List Name) (index : List ℕ) : Type 0 where
  pub rises : (name : Name) → IsNonDecreasingBy (λ (at : ℕ). ordering_index (name_order (name_at names at) name)) index
  pub all : (name : Name) → list_any (λ (at : ℕ). same_name (name_at names at) name) index ≡ is_among names name
