use Rattle.std.proofs.Common.{rules}
use Rattle.std.proofs.lemmas.List.Sorted.{answers_always}
use Rattle.trim_rule.specs.Reduction.{goes_before}
use Rattle.trim_rule.proofs.InOrder.{ordered_from_sorted}
use Rattle.trim_rule.proofs.Ranking.{ranks}
use Rattle.trim_rule.proofs.reduction.put_in_order.Goals as goal

pub returns-clause-sorted : goal.returns-clause-sorted
returns-clause-sorted c =
    ordered_from_sorted goes_before ranks c.sort_unstable_by.new.self
    (c.sort_unstable_by.ensures.sorted goes_before ranks (answers_always _ _ _ (λ f a r q k. search rules)))
