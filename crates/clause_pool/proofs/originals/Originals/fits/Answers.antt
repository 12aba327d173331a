use Rattle.std.proofs.Common.{◌-◌, arith}
use Rattle.std.proofs.lemmas.Bool.{leb-true, le-leb}
use Rattle.clause_pool.proofs.Parts.{arena_size}
use Rattle.clause_pool.proofs.originals.Originals.fits.Goals as goal

-- the arena has as many literals as the clauses
pub returns-then-more-le-MOST_LITERALS : goal.returns-then-more-le-MOST_LITERALS
returns-then-more-le-MOST_LITERALS c =
    let size = arena_size _ _ _ c.self.invariant c.self.view_is in
    let small = c.if-more-le-MOST_LITERALS.true in (
      λ is. omega (arith, size, c.len.ensures, small, leb-true c.len.result (4294967295 - c.args.more) is),
      λ few. le-leb c.len.result (4294967295 - c.args.more) (omega (arith, size, c.len.ensures, small, few)),
    )
