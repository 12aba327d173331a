use Rattle.std.proofs.Common.{false, arith}
use Rattle.clause_pool.proofs.Flagging.{filled_more}
use Rattle.clause_pool.proofs.packing.clear.Goals as goal

-- one flag more is lowered
pub loop-flag-preserved : goal.loop-flag-preserved
loop-flag-preserved c = filled_more c.loop-flag.flags c.args.flags.now c.loop-flag.flag-index false false (omega arith) c.loop-flag.invariant
