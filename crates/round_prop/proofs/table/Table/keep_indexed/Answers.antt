use Rattle.std.proofs.Common.{◌+◌, ◌<◌, not, length, refl, ap, sym, ◌∙◌, subst, arith}
use Rattle.std.proofs.lemmas.Option.{slice_get_read}
use Rattle.round_prop.specs.Readied.{IsRoomKept}
use Rattle.round_prop.specs.Removal.{AreMoved}
use Rattle.round_prop.specs.declared.table.Table.{Table}
use Rattle.round_prop.proofs.Keeping.{step_moved, step_left, room_trans}
use Rattle.round_prop.proofs.table.Table.keep_indexed.Goals as goal
use Rattle.round_prop.proofs.table.Table.keep_indexed.Goals.{then-not-is_indexed, else-not-is_indexed}

pub loop-row-preserved : goal.loop-row-preserved
loop-row-preserved c =
    let now = c.loop-row.self in
    let start = c.args.self.now in
    let names = c.args.names.now in
    let inside : c.loop-row.row < length now.rows.items = omega (arith, c.loop-row-test.true, c.len-row-end.ensures, c.loop-row.invariant.moved.rows_long) in
    let row = slice_get_read now.rows.items (length now.rows.items) c.loop-row.row c.index.result.now refl inside c.index.ensures in
    elim c.if-not-is_indexed.branch [
      | then-not-is_indexed w ↦
          let after = w.move_row.new.self in
          let moved : AreMoved names start after (c.loop-row.row + 1) (c.loop-row.kept + 1) =
          step_moved names start now after c.loop-row.row c.loop-row.kept c.index.result.now c.requires.sized c.loop-row.invariant.moved row
          (ap (λ b. not b) (sym c.is_indexed.ensures ∙ w.if-not-is_indexed.true)) w.move_row.ensures.rows w.move_row.ensures.flags w.move_row.ensures.nodes in
          record {
            moved = subst (λ (t : Table). AreMoved names start t (c.loop-row.row + 1) c.if-not-is_indexed.kept) (sym w.self-is)
                (subst (λ n. AreMoved names start after (c.loop-row.row + 1) n) (sym w.kept-is) moved);
            notes = ap (λ (t : Table). t.noted.notes) w.self-is ∙ (w.move_row.ensures.notes ∙ c.loop-row.invariant.notes);
            heads = ap (λ (t : Table). t.links.heads) w.self-is ∙ (w.move_row.ensures.heads ∙ c.loop-row.invariant.heads);
            room = subst (λ (t : Table). IsRoomKept start t) (sym w.self-is) (room_trans start now after c.loop-row.invariant.room w.move_row.ensures.room);
          }
      | else-not-is_indexed w ↦
          let moved : AreMoved names start now (c.loop-row.row + 1) c.loop-row.kept =
          step_left names start now c.loop-row.row c.loop-row.kept c.index.result.now c.requires.sized c.loop-row.invariant.moved row
          (ap (λ b. not b) (sym c.is_indexed.ensures ∙ w.if-not-is_indexed.false)) in
          record {
            moved = subst (λ (t : Table). AreMoved names start t (c.loop-row.row + 1) c.if-not-is_indexed.kept) (sym w.self-is)
                (subst (λ n. AreMoved names start now (c.loop-row.row + 1) n) (sym w.kept-is) moved);
            notes = ap (λ (t : Table). t.noted.notes) w.self-is ∙ c.loop-row.invariant.notes;
            heads = ap (λ (t : Table). t.links.heads) w.self-is ∙ c.loop-row.invariant.heads;
            room = subst (λ (t : Table). IsRoomKept start t) (sym w.self-is) c.loop-row.invariant.room;
          }
    ]
