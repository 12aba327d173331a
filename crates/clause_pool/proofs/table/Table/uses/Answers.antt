use Rattle.std.proofs.Common.{ap, arith}
use Rattle.std.specs.Prelude.{option_map}
use Rattle.clause_pool.proofs.Rows.{inside_slots, row_read}
use Rattle.clause_pool.proofs.table.Table.uses.Goals as goal

-- the place is that of a slot
pub index-requires : goal.index-requires
index-requires c =
    let inside = inside_slots c.self.inside.literals.items c.self.inside.slots.items c.args.self.now c.args.place c.self.view_is c.requires in
    omega (arith, inside)

-- its uses are the clause's
pub returns : goal.returns
returns c = ap (λ o. option_map (λ d. d.uses) o) (row_read c.self.inside.literals.items c.self.inside.slots.items c.args.self.now c.args.place c.index.result.now c.self.invariant.arena c.self.view_is c.requires c.index.ensures)
