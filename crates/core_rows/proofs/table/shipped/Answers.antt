use Rattle.std.proofs.Common.{rules}
use Rattle.core_rows.proofs.Apart.{differ_below}
use Rattle.core_rows.proofs.table.shipped.Goals as goal

-- no two rows have one unit and one phase
pub invariant_of-result : goal.invariant_of-result
invariant_of-result c = search (rules, differ_below)
