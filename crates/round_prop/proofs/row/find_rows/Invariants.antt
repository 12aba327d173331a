use Rattle.std.proofs.Common.{◌≡◌, ◌++◌, take, drop}
use Rattle.std.specs.Prelude.{map}
use Rattle.round_prop.specs.Spanned.{row_for}
use Rattle.round_prop.specs.declared.row.Row.{Row}
use Rattle.round_prop.proofs.row.find_rows.Given as goal

-- the rows so far were found anew
abbrev pub invariant-loop-at : goal.invariant-loop-at
invariant-loop-at l = l.rows ≡ map (λ (r : Row). row_for l.pool.added r.name) (take l.at l.fn.rows) ++ drop l.at l.fn.rows
