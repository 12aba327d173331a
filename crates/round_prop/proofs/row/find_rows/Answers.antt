use Rattle.std.proofs.Common.{◌≡◌, ◌+◌, ◌++◌, set, take, drop, get_or, ap, ◌∙◌, arith}
use Rattle.std.specs.Prelude.{map}
use Rattle.std.proofs.lemmas.Option.{slice_get-get_or}
use Rattle.round_prop.specs.Spanned.{row_for}
use Rattle.round_prop.specs.declared.row.Row.{Row}
use Rattle.round_prop.proofs.Keeping.{map_step}
use Rattle.round_prop.proofs.row.find_rows.Goals as goal

pub loop-at-preserved : goal.loop-at-preserved
loop-at-preserved c = step _ c.find_row.ensures
  where
    step : (d : Row) → c.find_row.result ≡ row_for c.args.pool.now.added (get_or c.loop-at.rows c.loop-at.at d).name →
        set c.loop-at.rows c.loop-at.at c.find_row.result
        ≡ map (λ (r : Row). row_for c.args.pool.now.added r.name) (take (c.loop-at.at + 1) c.args.rows.now) ++ drop (c.loop-at.at + 1) c.args.rows.now
    step d found =
        let now = slice_get-get_or c.loop-at.rows c.loop-at.at d (omega (arith, c.loop-at-test.true, c.loop-at.auto.rows)) in
        ap (λ r. set c.loop-at.rows c.loop-at.at r) found
        ∙ map_step (λ (r : Row). row_for c.args.pool.now.added r.name) c.args.rows.now c.loop-at.rows c.loop-at.at (get_or c.loop-at.rows c.loop-at.at d) c.loop-at.invariant now
