use Rattle.std.proofs.Common.{◌==◌, ◌≡◌, length, reverse, ap, ◌∙◌, arith}
use Rattle.std.specs.Vec.{vec_len}
use Rattle.std.proofs.lemmas.List.{length-reverse}
use Rattle.clause_pool.proofs.Rows.{rows_length}
use Rattle.clause_pool.proofs.table.Table.is_empty.Goals as goal

-- there is a clause for each slot
pub returns : goal.returns
returns c =
    let inside = c.self.inside in
    let size : vec_len inside.slots ≡ length c.args.self.now = omega (arith, ap length c.self.view_is, rows_length inside.literals.items (reverse inside.slots.items), length-reverse inside.slots.items) in
    c.is_empty.ensures ∙ ap (λ n. n == 0) size
