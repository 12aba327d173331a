use Rattle.std.proofs.Common.{◌<◌, length, arith}
use Rattle.std.proofs.lemmas.List.{get_or_default}
use Rattle.std.proofs.lemmas.List.Edits.{map_over_more}
use Rattle.clause_pool.specs.Slots.{without_count}
use Rattle.clause_pool.proofs.table.clear_counts.Goals as goal

-- one slot more has no uses
pub loop-slot-preserved : goal.loop-slot-preserved
loop-slot-preserved c =
    let slots = c.loop-slot.slots in
    let within : c.loop-slot.slot-index < length slots = omega arith in
    map_over_more without_count c.args.slots.now slots c.loop-slot.slot-index _ (omega arith) c.loop-slot.invariant (get_or_default slots c.loop-slot.slot-index _ _ within)
