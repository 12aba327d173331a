-- Tables that differ in nothing but their room serve alike.
use Rattle.std.proofs.Common.{◌≡◌, inl, inr, ◌*◌, Bool, true, false, List, [], ◌∷◌, length, ap, sym, ◌∙◌, subst}
use Rattle.std.specs.List.{AllByRecursion}
use Rattle.lit_base.specs.Rounds.{NamedClause}
use Rattle.lit_base.specs.Held.{is_among}
use Rattle.lit_base.specs.declared.trail.Entry.{Entry}
use Rattle.lit_base.specs.declared.name.Name.{Name}
use Rattle.round_prop.specs.Chains.{lits_of, AreThreaded}
use Rattle.round_prop.specs.Noting.{IsNoted, AreNotesOf, AreFlagged}
use Rattle.round_prop.specs.Readied.{row_names, AreSized, AreRows, IsTable, AreNamedApart}
use Rattle.round_prop.specs.Room.{HaveSameItems}
use Rattle.round_prop.specs.Attached.{AreAttachedIn, IsKnown}
use Rattle.round_prop.specs.declared.node.Node.{Node}
use Rattle.round_prop.specs.declared.row.Row.{Row}
use Rattle.round_prop.specs.declared.short.Short.{Short}
use Rattle.round_prop.specs.declared.table.Table.{Table}

-- items are enough to be sized
sized_by : (nodes others : List Node) (rows others_rows : List Row) (flags others_flags : List Bool) → others ≡ nodes → others_rows ≡ rows → others_flags ≡ flags →
    (length nodes ≡ 2 * length rows) → (length flags ≡ length rows) → (length others ≡ 2 * length others_rows) × (length others_flags ≡ length others_rows)
sized_by nodes others rows others_rows flags others_flags same_nodes same_rows same_flags two one =
    (ap length same_nodes ∙ (two ∙ ap (λ (rs : List Row). 2 * length rs) (sym same_rows)), ap length same_flags ∙ (one ∙ ap length (sym same_rows)))

pub sized_like : (t other : Table) → HaveSameItems t other → AreSized t → AreSized other
sized_like t other same sized =
    let both = sized_by t.links.nodes.items other.links.nodes.items t.rows.items other.rows.items t.noted.flags.items other.noted.flags.items same.nodes same.rows same.flags sized.nodes sized.flags in
    record { nodes = both.0; flags = both.1 }

pub flagged_like : (t other : Table) → HaveSameItems t other → AreFlagged (row_names t.rows.items) t.noted.flags.items t.noted.notes.items →
    AreFlagged (row_names other.rows.items) other.noted.flags.items other.noted.notes.items
flagged_like t other same flagged =
    subst (λ notes. AreFlagged (row_names other.rows.items) other.noted.flags.items notes) (sym same.notes)
    (subst (λ flags. AreFlagged (row_names other.rows.items) flags t.noted.notes.items) (sym same.flags)
    (subst (λ rows. AreFlagged (row_names rows) t.noted.flags.items t.noted.notes.items) (sym same.rows) flagged))

-- such a table is one where the other is
pub table_like : (clauses : List NamedClause) (trail done : List Entry) (t other : Table) → HaveSameItems t other → IsTable clauses trail done t → IsTable clauses trail done other
table_like clauses trail done t other same is = record {
  sized = sized_like t other same is.sized;
  threaded =
      subst (λ heads. AreThreaded heads other.links.nodes.items) (sym same.heads)
      (subst (λ nodes. AreThreaded t.links.heads.items nodes) (sym same.nodes) is.threaded);
  rows =
      subst (λ notes. AreRows clauses trail done notes (row_names other.rows.items) (lits_of other.links.nodes.items)) (sym same.notes)
      (subst (λ nodes. AreRows clauses trail done t.noted.notes.items (row_names other.rows.items) (lits_of nodes)) (sym same.nodes)
      (subst (λ rows. AreRows clauses trail done t.noted.notes.items (row_names rows) (lits_of t.links.nodes.items)) (sym same.rows) is.rows));
  flagged = flagged_like t other same is.flagged;
  sound = subst (λ notes. AreNotesOf trail clauses notes) (sym same.notes) is.sound;
}

each_known : (clauses : List NamedClause) (trail : List Entry) (t other : Table) (shorts : List Short) (fresh : List Name) → HaveSameItems t other →
    AllByRecursion (IsKnown trail t shorts fresh) clauses → AllByRecursion (IsKnown trail other shorts fresh) clauses
each_known [] trail t other shorts fresh same known = tt
each_known (c ∷ later) trail t other shorts fresh same known = (one known.0, each_known later trail t other shorts fresh same known.1)
  where
    one : IsKnown trail t shorts fresh c → IsKnown trail other shorts fresh c
    one (inl new) = inl new
    one (inr (inl row)) = inr (inl (subst (λ rows. is_among (row_names rows) c.name ≡ true) (sym same.rows) row))
    one (inr (inr (short, inl noted))) = inr (inr (short, inl (subst (λ notes. IsNoted notes c.name) (sym same.notes) noted)))
    one (inr (inr (short, inr is))) = inr (inr (short, inr is))

each_new : (names : List Name) (t other : Table) → HaveSameItems t other → AllByRecursion (λ name. is_among (row_names t.rows.items) name ≡ false) names →
    AllByRecursion (λ name. is_among (row_names other.rows.items) name ≡ false) names
each_new names t other same new = subst (λ rows. AllByRecursion (λ name. is_among (row_names rows) name ≡ false) names) (sym same.rows) new

-- and the same is attached in it
pub attached_like : (clauses : List NamedClause) (trail done : List Entry) (t other : Table) (shorts : List Short) (fresh : List Name) → HaveSameItems t other →
    AreAttachedIn clauses trail done t shorts fresh → AreAttachedIn clauses trail done other shorts fresh
attached_like clauses trail done t other shorts fresh same are = record {
  rising = are.rising;
  table = table_like clauses trail done t other same are.table;
  apart = subst (λ rows. AreNamedApart (row_names rows)) (sym same.rows) are.apart;
  short = are.short;
  known = each_known clauses trail t other shorts fresh same are.known;
  fresh_found = are.fresh_found;
  fresh_apart = are.fresh_apart;
  fresh_new = each_new fresh t other same are.fresh_new;
}
