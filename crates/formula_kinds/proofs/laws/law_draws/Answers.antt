use Rattle.std.proofs.Common.{◌*◌, ◌/◌}
use Rattle.lit_base.specs.Distinct.{distinct}
use Rattle.formula_kinds.specs.Rand.{drawn_clause}
use Rattle.formula_kinds.proofs.BelowLists.{slice_get-below}
use Rattle.formula_kinds.proofs.laws.law_draws.Goals as goal

pub returns : goal.returns
returns c n seed i low = slice_get-below (λ j. distinct (drawn_clause n seed j)) (17 * n / 4) i low
