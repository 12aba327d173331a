use Rattle.std.proofs.Common.{◌≡◌, ℕ, [], ◌∷◌, ◌++◌, arith, length, refl, ap, sym, ◌∙◌, subst, Vec, Global}
use Rattle.std.specs.Prelude.{Some}
use Rattle.round_prop.specs.declared.note.Note.{Note}
use Rattle.round_prop.specs.Noting.{HasNote}
use Rattle.round_prop.specs.Readied.{IsRow}
use Rattle.round_prop.proofs.NoteSteps.{has_last}
use Rattle.round_prop.proofs.RowSteps.{table_noted}
use Rattle.round_prop.proofs.table.Table.link_noted.Goals as goal

rows_long : (a b : ℕ) → a ≡ b → a ≡ b
rows_long a b is = is

pub link-requires-clause-sized : goal.link-requires-clause-sized
link-requires-clause-sized c = record { nodes = c.requires.sized.nodes; flags = c.requires.sized.flags }

pub returns-clause-table : goal.returns-clause-table
returns-clause-table c = λ clauses trail done table right true_note.
    let note : Note = record { name = c.args.row.name; lit = Some c.args.lit; row = length c.args.self.now.rows.items } in
    let grown = c.push_reserved.ensures.items ∙ ap (λ r. let k : Note = record { name = c.args.row.name; lit = Some c.args.lit; row = r } in c.args.self.now.noted.notes.items ++ k ∷ []) (rows_long c.len.result (length c.args.self.now.rows.items) (omega (arith, c.len.ensures))) in
    c.link.ensures.table clauses trail done
    (table_noted clauses trail done c.args.self.now (record c.args.self.now.noted { notes = c.push_reserved.new.self }) note grown refl true_note table)
    (subst (λ (v : Vec Note Global). IsRow clauses trail done v.items c.args.row.name c.args.a c.args.b) c.link.ensures.notes right)
    (λ set_now. subst (λ ns. HasNote ns (length c.args.self.now.rows.items) c.args.row.name) (sym grown) (has_last c.args.self.now.noted.notes.items note (length c.args.self.now.rows.items) refl))

pub returns-clause-notes : goal.returns-clause-notes
returns-clause-notes c =
    let grown = c.push_reserved.ensures.items ∙ ap (λ r. let k : Note = record { name = c.args.row.name; lit = Some c.args.lit; row = r } in c.args.self.now.noted.notes.items ++ k ∷ []) (rows_long c.len.result (length c.args.self.now.rows.items) (omega (arith, c.len.ensures))) in
    ap (λ (v : Vec Note Global). v.items) c.link.ensures.notes ∙ grown

pub returns-clause-room : goal.returns-clause-room
returns-clause-room c = record {
  heads = c.link.ensures.room.heads;
  rows_room = c.link.ensures.room.rows_room;
  nodes_room = c.link.ensures.room.nodes_room;
  notes_room = c.link.ensures.room.notes_room ∙ c.push_reserved.ensures.capacity;
  flags_room = c.link.ensures.room.flags_room;
}
