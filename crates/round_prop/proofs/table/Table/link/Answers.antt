use Rattle.std.proofs.Common.{◌++◌, [], ◌∷◌, length, refl, ap, ◌∙◌, arith, append_assoc}
use Rattle.std.proofs.lemmas.List.{length-map, length-append}
use Rattle.round_prop.specs.declared.node.Node.{Node}
use Rattle.round_prop.specs.Chains.{lits_of}
use Rattle.round_prop.proofs.RowSteps.{table_linked}
use Rattle.round_prop.proofs.table.Table.link.Goals as goal

-- there is a node more
pub add-requires-2-clause-room : goal.add-requires-2-clause-room
add-requires-2-clause-room c =
    let e = ap length c.add.ensures.lits in
    omega (arith, e, c.add.ensures.room, c.requires.nodes, length-map c.args.self.now.links.nodes.items (λ (m : Node). m.lit), length-map c.add.new.self.nodes.items (λ (m : Node). m.lit), length-append (lits_of c.args.self.now.links.nodes.items) (c.args.a ∷ []))

pub add-requires-2-clause-few : goal.add-requires-2-clause-few
add-requires-2-clause-few c =
    let e = ap length c.add.ensures.lits in
    omega (arith, e, c.requires.few, length-map c.args.self.now.links.nodes.items (λ (m : Node). m.lit), length-map c.add.new.self.nodes.items (λ (m : Node). m.lit), length-append (lits_of c.args.self.now.links.nodes.items) (c.args.a ∷ []))

pub returns-clause-table : goal.returns-clause-table
returns-clause-table c = λ clauses trail done table right has.
    table_linked clauses trail done c.args.self.now _ c.args.row c.args.a c.args.b c.args.flag table right has c.push_reserved.ensures.items c.push_reserved-2.ensures.items
    (c.add-2.ensures.lits ∙ (ap (λ ls. ls ++ c.args.b ∷ []) c.add.ensures.lits ∙ append_assoc (lits_of c.args.self.now.links.nodes.items) (c.args.a ∷ []) (c.args.b ∷ []))) refl
    (c.add-2.ensures.threaded (c.add.ensures.threaded table.threaded))

pub returns-clause-lits : goal.returns-clause-lits
returns-clause-lits c = c.add-2.ensures.lits ∙ (ap (λ ls. ls ++ c.args.b ∷ []) c.add.ensures.lits ∙ append_assoc (lits_of c.args.self.now.links.nodes.items) (c.args.a ∷ []) (c.args.b ∷ []))

pub returns-clause-room : goal.returns-clause-room
returns-clause-room c = record {
  heads = c.add-2.ensures.heads ∙ c.add.ensures.heads;
  rows_room = c.push_reserved.ensures.capacity;
  nodes_room = c.add-2.ensures.room ∙ c.add.ensures.room;
  notes_room = refl;
  flags_room = c.push_reserved-2.ensures.capacity;
}
