use Rattle.std.proofs.Common.{◌+◌, ◌*◌, refl}
use Rattle.round_prop.proofs.Making.{made_ready}
use Rattle.round_prop.proofs.table.Table.make.Goals as goal

pub returns-clause-ready : goal.returns-clause-ready
returns-clause-ready c =
    made_ready c.args.variables (2 * c.args.variables + 2) _ c.new.ensures.items (c.in_ok-vec.ensures.items_if_clones_equal (λ y is. is)) c.new-2.ensures.items c.new-3.ensures.items c.new-4.ensures.items refl
