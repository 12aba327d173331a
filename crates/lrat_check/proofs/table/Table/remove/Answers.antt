use Rattle.std.proofs.Common.{◌==◌, nat_cmp}
use Rattle.std.specs.Cmp.{unsigned_tied}
use Rattle.std.specs.BTreeMap.{get, is_at}
use Rattle.lrat_check.specs.Table.{part_of, part_at, span_at}
use Rattle.lrat_check.proofs.Spans.{both_removed, part_unwritten}
use Rattle.lrat_check.proofs.table.Table.remove.Goals as goal

pub returns : goal.returns
unfolding span_at
returns c n =
    let before = get nat_cmp c.args.self.now.leaps n in
    let after = get nat_cmp c.remove.new.self n in
    both_removed (c.args.id == n) (part_at c.clear_at.new.spans.items n) (part_at c.args.self.now.spans.items n) (part_of before) (part_of after)
    (c.clear_at.ensures n)
    (part_unwritten (is_at (nat_cmp c.args.id) n) (c.args.id == n) before after (unsigned_tied c.args.id n) (c.remove.ensures.updates.0 n))
