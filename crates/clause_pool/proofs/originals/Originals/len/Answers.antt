use Rattle.std.proofs.Common.{length, reverse, ap, arith}
use Rattle.std.proofs.lemmas.List.{length-reverse}
use Rattle.clause_pool.proofs.Parts.{parts_length}
use Rattle.clause_pool.proofs.originals.Originals.len.Goals as goal

-- there is a part for each end
pub returns : goal.returns
returns c =
    let inside = c.self.inside in
    omega (arith, c.len.ensures, length-reverse inside.ends.items, parts_length inside.literals.items (reverse inside.ends.items), ap length c.self.view_is)
