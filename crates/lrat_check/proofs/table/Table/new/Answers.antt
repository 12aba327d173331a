use Rattle.std.proofs.Common.{◌∙◌, ap, nat_cmp}
use Rattle.std.specs.BTreeMap.{get, is_at}
use Rattle.std.specs.Map.{lookup}
use Rattle.lrat_check.specs.Table.{part_of, part_at, first_of, span_at}
use Rattle.lrat_check.proofs.table.Table.new.Goals as goal

pub returns : goal.returns
unfolding span_at
returns c n =
    ap (λ spans. first_of (part_at spans n) (part_of (get nat_cmp c.new-2.result n))) c.new.ensures.items
    ∙ ap (λ entries. part_of (lookup (is_at (nat_cmp n)) entries)) c.new-2.ensures.empty
