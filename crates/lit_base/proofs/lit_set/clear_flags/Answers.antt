use Rattle.std.proofs.Common.{◌≡◌, replicate, false, rules}
use Rattle.lit_base.proofs.Flags.{clear_at}
use Rattle.lit_base.proofs.lit_set.clear_flags.Goals as goal

-- a flag is clear wherever it is read
pub returns-clause-clear : goal.returns-clause-clear
returns-clause-clear c k =
    let items : c.in_ok-vec.field-0.items ≡ replicate c.args.count false = search rules in
    rw items (clear_at c.args.count k)
