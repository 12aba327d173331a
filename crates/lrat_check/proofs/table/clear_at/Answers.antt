use Rattle.std.proofs.Common.{◌<◌, ◌≤◌, refl, length, arith}
use Rattle.lrat_check.proofs.Spans.{part_cleared, part_absent}
use Rattle.lrat_check.proofs.table.clear_at.Goals as goal

-- the place is there
pub returns-then-place-len : goal.returns-then-place-len
returns-then-place-len c n =
    let within : c.args.id < length c.args.spans.now.items = omega (arith, c.if-place-len.true, c.len.ensures, c.args.spans.now.ok) in
    part_cleared c.args.spans.now.items c.args.id (record { from = 1; to = 0 }) refl within n

-- it isn't
pub returns-else-place-len : goal.returns-else-place-len
returns-else-place-len c n =
    let past : length c.args.spans.now.items ≤ c.args.id = omega (arith, c.if-place-len.false, c.len.ensures, c.args.spans.now.ok) in
    part_absent c.args.spans.now.items c.args.id past n
