use Rattle.std.proofs.Common.{length, ap, arith}
use Rattle.clause_pool.proofs.Parts.{arena_size}
use Rattle.clause_pool.proofs.originals.Originals.width.Goals as goal

-- the arena has as many literals as the clauses
pub returns-clause-value : goal.returns-clause-value
returns-clause-value c =
    let size = arena_size _ _ _ c.self.invariant c.self.view_is in
    omega (arith, size, ap length c.deref-literals.ensures.value)

pub returns-clause-few : goal.returns-clause-few
returns-clause-few c = omega (arith, c.deref-literals.type_inv)
