use Rattle.std.proofs.Common.{◌+◌, ◌-◌, ◌*◌, ◌≤◌, List, take, drop, length, ap, sym, ◌∙◌, arith}
use Rattle.lit_base.specs.declared.name.Name.{Name}
use Rattle.round_prop.specs.Removal.{kept_rows, kept_items, kept_pairs}
use Rattle.round_prop.proofs.Parts.{none_rows, none_items, none_pairs, nothing_left, rows_step, items_step, pairs_step, long_same}
use Rattle.round_prop.proofs.Removed.{items_long, pairs_long}
use Rattle.round_prop.proofs.table.Table.keep_rows.Goals as goal

pub loop-done-preserved : goal.loop-done-preserved
loop-done-preserved c =
    let now = c.loop-done.self in
    let after = c.keep_indexed.new.self in
    let names = c.args.names.now in
    let from = c.loop-done.done in
    let to = c.loop-done.done + c.part_of.result in
    let low : from ≤ to = omega arith in
    let is = c.loop-done.invariant in
    let room = c.keep_indexed.ensures.room in
    let part : List Name = take (to - from) (drop from names) in
    record {
      sized = record {
        nodes = ap length c.keep_indexed.ensures.nodes ∙ (pairs_long part now.rows.items now.links.nodes.items is.sized.nodes ∙ ap (λ rs. 2 * length rs) (sym c.keep_indexed.ensures.rows));
        flags = ap length c.keep_indexed.ensures.flags ∙ (items_long part now.rows.items now.noted.flags.items is.sized.flags ∙ ap length (sym c.keep_indexed.ensures.rows));
      };
      within = omega (arith, c.part_of.ensures.left, c.len.ensures, c.loop-done-test.true);
      rows = rows_step names from to low now.rows.items after.rows.items c.keep_indexed.ensures.rows ∙ is.rows;
      flags = items_step names from to low now.rows.items after.rows.items now.noted.flags.items after.noted.flags.items c.keep_indexed.ensures.rows c.keep_indexed.ensures.flags ∙ is.flags;
      nodes = pairs_step names from to low now.rows.items after.rows.items now.links.nodes.items after.links.nodes.items c.keep_indexed.ensures.rows c.keep_indexed.ensures.nodes ∙ is.nodes;
      notes = c.keep_indexed.ensures.notes ∙ is.notes;
      room = record {
        heads = room.heads ∙ (long_same now.links.heads c.index_names.new.places ∙ is.room.heads);
        rows_room = room.rows_room ∙ is.room.rows_room;
        nodes_room = room.nodes_room ∙ is.room.nodes_room;
        notes_room = room.notes_room ∙ is.room.notes_room;
        flags_room = room.flags_room ∙ is.room.flags_room;
      };
    }

pub returns-clause-rows : goal.returns-clause-rows
returns-clause-rows c =
    let none = nothing_left c.args.names.now c.loop-done.done (omega (arith, c.loop-done-test.false)) in
    sym (none_rows c.loop-done.self.rows.items) ∙ (ap (λ ns. kept_rows ns c.loop-done.self.rows.items) (sym none) ∙ c.loop-done.invariant.rows)

pub returns-clause-flags : goal.returns-clause-flags
returns-clause-flags c =
    let none = nothing_left c.args.names.now c.loop-done.done (omega (arith, c.loop-done-test.false)) in
    sym (none_items c.loop-done.self.rows.items c.loop-done.self.noted.flags.items c.loop-done.invariant.sized.flags)
    ∙ (ap (λ ns. kept_items ns c.loop-done.self.rows.items c.loop-done.self.noted.flags.items) (sym none) ∙ c.loop-done.invariant.flags)

pub returns-clause-nodes : goal.returns-clause-nodes
returns-clause-nodes c =
    let none = nothing_left c.args.names.now c.loop-done.done (omega (arith, c.loop-done-test.false)) in
    sym (none_pairs c.loop-done.self.rows.items c.loop-done.self.links.nodes.items c.loop-done.invariant.sized.nodes)
    ∙ (ap (λ ns. kept_pairs ns c.loop-done.self.rows.items c.loop-done.self.links.nodes.items) (sym none) ∙ c.loop-done.invariant.nodes)
