use Rattle.std.proofs.Common.{◌==◌, ◌∙◌, ap, cond, nat_cmp, Some}
use Rattle.std.specs.Cmp.{unsigned_tied}
use Rattle.std.specs.BTreeMap.{get, is_at}
use Rattle.lrat_check.specs.Table.{part_of, part_at, span_at}
use Rattle.lrat_check.proofs.Spans.{first_put, leap_put, part_written}
use Rattle.lrat_check.proofs.table.Table.put.Goals as goal

-- a part of the array
pub returns-in_ok-put_at-in-Some : goal.returns-in_ok-put_at-in-Some
unfolding span_at
returns-in_ok-put_at-in-Some c n =
    let before = part_at c.args.self.now.spans.items n in
    first_put (c.args.id == n) c.args.span (part_of (get nat_cmp c.args.self.now.leaps n)) before (part_at c.put_at.new.spans.items n)
    (c.in_ok-put_at-in-Some.ensures n ∙ ap (λ s. cond (c.args.id == n) (Some s) before) c.in-Some.ensures)

-- a part of the map
pub returns-in_ok-insert-in_default : goal.returns-in_ok-insert-in_default
unfolding span_at
returns-in_ok-insert-in_default c n =
    let before = get nat_cmp c.args.self.now.leaps n in
    let after = get nat_cmp c.insert.new.self n in
    leap_put (c.args.id == n) c.args.span (part_at c.clear_at.new.spans.items n) (part_at c.args.self.now.spans.items n) (part_of before) (part_of after)
    (c.clear_at.ensures n)
    (part_written (is_at (nat_cmp c.args.id) n) (c.args.id == n) c.args.span before after c.requires (unsigned_tied c.args.id n) (c.in_ok-insert-in_default.ensures.updates.0 n))
