-- The table that is left, when the rows of some names have left.
use Rattle.std.proofs.Common.{◌≡◌, ℕ, ◌*◌, List, length, ap, sym, ◌∙◌, subst, arith}
use Rattle.std.proofs.lemmas.List.{length-map}
use Rattle.lit_base.specs.Held.{clauses_without}
use Rattle.lit_base.specs.Rounds.{NamedClause}
use Rattle.lit_base.specs.declared.trail.Entry.{Entry}
use Rattle.lit_base.specs.declared.name.Name.{Name}
use Rattle.round_prop.specs.declared.node.Node.{Node}
use Rattle.round_prop.specs.declared.table.Table.{Table}
use Rattle.round_prop.specs.Chains.{lits_of, AreThreaded}
use Rattle.round_prop.specs.Noting.{AreNotesOf, AreFlagged}
use Rattle.round_prop.specs.Readied.{row_names, AreRows, IsTable, AreNamedApart}
use Rattle.round_prop.specs.Removal.{kept_rows, kept_items, kept_pairs}
use Rattle.round_prop.proofs.Removed.{rows_left, apart_left, items_long, pairs_long}
use Rattle.round_prop.proofs.NotesLeft.{notes_left, noted_left, sound_left, flagged_left}

pub table_left : (names : List Name) (clauses : List NamedClause) (trail done : List Entry) (before after : Table) (count : ℕ) → IsTable clauses trail done before → length before.rows.items ≡ count →
    after.rows.items ≡ kept_rows names before.rows.items → after.noted.flags.items ≡ kept_items names before.rows.items before.noted.flags.items →
    lits_of after.links.nodes.items ≡ kept_pairs names before.rows.items (lits_of before.links.nodes.items) →
    after.noted.notes.items ≡ notes_left names (kept_rows names before.rows.items) count before.noted.notes.items → AreNamedApart (row_names before.rows.items) →
    AreThreaded after.links.heads.items after.links.nodes.items → IsTable (clauses_without names clauses) trail done after
table_left names clauses trail done before after count table counted rows flags lits notes apart threaded =
    let left = kept_rows names before.rows.items in
    let lits_long : length (lits_of before.links.nodes.items) ≡ 2 * length before.rows.items = length-map before.links.nodes.items (λ (m : Node). m.lit) ∙ table.sized.nodes in
    let are : AreRows (clauses_without names clauses) trail done (notes_left names left count before.noted.notes.items) (row_names left) (kept_pairs names before.rows.items (lits_of before.links.nodes.items)) =
    rows_left clauses trail done before.noted.notes.items (notes_left names left count before.noted.notes.items) names before.rows.items (lits_of before.links.nodes.items) lits_long
    (noted_left names left count before.noted.notes.items) table.rows in
    let flagged : AreFlagged (row_names left) (kept_items names before.rows.items before.noted.flags.items) (notes_left names left count before.noted.notes.items) =
    flagged_left names before.rows.items before.noted.flags.items before.noted.notes.items count counted (apart_left names before.rows.items apart) table.flagged in
    record {
      sized = record {
        nodes = let long = ap length lits in let own = ap length rows in
            omega (arith, long, own, length-map after.links.nodes.items (λ (m : Node). m.lit), pairs_long names before.rows.items (lits_of before.links.nodes.items) lits_long);
        flags = ap length flags ∙ (items_long names before.rows.items before.noted.flags.items table.sized.flags ∙ sym (ap length rows));
      };
      threaded = threaded;
      rows = subst (λ ns. AreRows (clauses_without names clauses) trail done ns (row_names after.rows.items) (lits_of after.links.nodes.items)) (sym notes)
          (subst (λ rs. AreRows (clauses_without names clauses) trail done (notes_left names left count before.noted.notes.items) (row_names rs) (lits_of after.links.nodes.items)) (sym rows)
          (subst (λ ls. AreRows (clauses_without names clauses) trail done (notes_left names left count before.noted.notes.items) (row_names left) ls) (sym lits) are));
      flagged = subst (λ ns. AreFlagged (row_names after.rows.items) after.noted.flags.items ns) (sym notes)
          (subst (λ rs. AreFlagged (row_names rs) after.noted.flags.items (notes_left names left count before.noted.notes.items)) (sym rows)
          (subst (λ fs. AreFlagged (row_names left) fs (notes_left names left count before.noted.notes.items)) (sym flags) flagged));
      sound = subst (λ ns. AreNotesOf trail (clauses_without names clauses) ns) (sym notes) (sound_left trail clauses names left count before.noted.notes.items table.sound);
    }
