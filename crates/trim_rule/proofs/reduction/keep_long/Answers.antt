use Rattle.std.proofs.Common.{rules, nat_lt}
use Rattle.std.proofs.lemmas.Fn.{filter_same}
use Rattle.trim_rule.proofs.reduction.keep_long.Goals as goal

pub returns : goal.returns
returns c = filter_same _ (λ t. nat_lt 2 t.size) _ (λ x b q k. search rules) _ _ c.retain.ensures.filtered
