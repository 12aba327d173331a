use Rattle.std.proofs.Common.{◌≡◌, ◌<◌, ◌≤◌, Bool, not, length, Vec, Global, vec_len, filter, map, ap, sym, ◌∙◌, subst, arith, rules, All}
use Rattle.std.proofs.lemmas.Fn.{filter_same}
use Rattle.std.specs.Vec.{with_items}
use Rattle.std.proofs.lemmas.List.{length-map, with_items_is}
use Rattle.lit_base.specs.Held.{is_among}
use Rattle.trail_book.specs.Arrays.{index_of}
use Rattle.round_prop.specs.Chains.{lits_of}
use Rattle.round_prop.specs.Noting.{IsNoted, load_of}
use Rattle.round_prop.specs.Removal.{kept_rows, kept_pairs, placed}
use Rattle.round_prop.specs.declared.node.Node.{Node}
use Rattle.round_prop.specs.declared.note.Note.{Note}
use Rattle.round_prop.proofs.Removed.{All-pairs, pairs_long, rows_fewer, lits_kept}
use Rattle.round_prop.proofs.NotesLeft.{notes_left, noted_left, load_left}
use Rattle.round_prop.proofs.TableLeft.{table_left}
use Rattle.round_prop.proofs.table.Table.remove.Goals as goal

pub place_notes-requires : goal.place_notes-requires
place_notes-requires c =
    let long = ap length c.keep_rows.ensures.rows in
    omega (arith, c.deref.ensures.len, long, rows_fewer c.args.names.now c.args.self.now.rows.items, c.requires.sized.nodes, c.requires.few)

pub thread-requires-clause-few : goal.thread-requires-clause-few
thread-requires-clause-few c =
    let long = ap length c.keep_rows.ensures.nodes in
    omega (arith, long, pairs_long c.args.names.now c.args.self.now.rows.items c.args.self.now.links.nodes.items c.requires.sized.nodes, rows_fewer c.args.names.now c.args.self.now.rows.items, c.requires.sized.nodes, c.requires.few)

pub thread-requires-clause-wide : goal.thread-requires-clause-wide
thread-requires-clause-wide c =
    subst (λ count. All (λ (n : Node). index_of n.lit < count) c.keep_rows.new.self.links.nodes.items) (let e : vec_len c.args.self.now.links.heads ≡ vec_len c.keep_rows.new.self.links.heads = omega (arith, c.keep_rows.ensures.room.heads) in e)
    (subst (λ ns. All (λ (n : Node). index_of n.lit < vec_len c.args.self.now.links.heads) ns) (sym c.keep_rows.ensures.nodes)
    (All-pairs (λ (n : Node). index_of n.lit < vec_len c.args.self.now.links.heads) c.args.names.now c.args.self.now.rows.items c.args.self.now.links.nodes.items c.requires.wide))

-- the notes that were lent and came back are those of the names that stay, with their new rows
notes_back : (c : goal.After-thread) →
    (with_items c.keep_rows.new.self.noted.notes c.place_notes.new.notes).items ≡
    notes_left c.args.names.now (kept_rows c.args.names.now c.args.self.now.rows.items) c.len-count.result c.args.self.now.noted.notes.items
notes_back c = with_items_is c.keep_rows.new.self.noted.notes c.place_notes.new.notes long ∙ are
  where
    stay : Note → Bool
    stay n = not (is_among c.args.names.now n.name)

    kept : c.retain.new.self.items ≡ filter stay c.args.self.now.noted.notes.items
    kept = filter_same _ stay _ (λ x b f k. search rules) c.args.self.now.noted.notes.items c.retain.new.self.items c.retain.ensures.filtered

    lent : c.deref_mut.result.now ≡ filter stay c.args.self.now.noted.notes.items
    lent = c.deref_mut.ensures.value ∙ (ap (λ (v : Vec Note Global). v.items) c.keep_rows.ensures.notes ∙ kept)

    are : c.place_notes.new.notes ≡ notes_left c.args.names.now (kept_rows c.args.names.now c.args.self.now.rows.items) c.len-count.result c.args.self.now.noted.notes.items
    are =
        c.place_notes.ensures
        ∙ (ap (λ rows. map (placed rows c.len-count.result) c.deref_mut.result.now) (c.deref.ensures.value ∙ c.keep_rows.ensures.rows)
        ∙ ap (λ ns. map (placed (kept_rows c.args.names.now c.args.self.now.rows.items) c.len-count.result) ns) lent)

    long : length c.place_notes.new.notes ≡ c.keep_rows.new.self.noted.notes.len
    long = ap length c.place_notes.ensures ∙ (length-map c.deref_mut.result.now (placed c.deref.result.now c.len-count.result) ∙ c.deref_mut.ensures.len)

pub returns-clause-notes : goal.returns-clause-notes
returns-clause-notes c = λ name stay noted.
    subst (λ ns. IsNoted ns name) (sym (notes_back c))
    (noted_left c.args.names.now (kept_rows c.args.names.now c.args.self.now.rows.items) c.len-count.result c.args.self.now.noted.notes.items name stay noted)

pub returns-clause-load : goal.returns-clause-load
returns-clause-load c =
    let same = ap (λ ns. load_of ns c.keep_rows.new.self.noted.flags.items) (notes_back c) in
    let flags = ap (λ fs. load_of (notes_left c.args.names.now (kept_rows c.args.names.now c.args.self.now.rows.items) c.len-count.result c.args.self.now.noted.notes.items) fs) c.keep_rows.ensures.flags in
    let most = load_left c.args.names.now c.args.self.now.rows.items (kept_rows c.args.names.now c.args.self.now.rows.items) c.len-count.result c.args.self.now.noted.notes.items c.args.self.now.noted.flags.items in
    subst (λ k. k ≤ load_of c.args.self.now.noted.notes.items c.args.self.now.noted.flags.items) (sym (same ∙ flags)) most

pub returns-clause-table : goal.returns-clause-table
returns-clause-table c = λ clauses trail done table.
    let names = c.args.names.now in
    let before = c.args.self.now in
    let lits : lits_of c.thread.new.self.nodes.items ≡ kept_pairs names before.rows.items (lits_of before.links.nodes.items) =
    c.thread.ensures.lits ∙ (ap lits_of c.keep_rows.ensures.nodes ∙ lits_kept names before.rows.items before.links.nodes.items) in
    table_left names clauses trail done before _ c.len-count.result table (let e : length before.rows.items ≡ c.len-count.result = omega (arith, c.len-count.ensures) in e) c.keep_rows.ensures.rows c.keep_rows.ensures.flags lits (notes_back c) c.requires.apart c.thread.ensures.threaded
