use Rattle.solo_core.proofs.EndRules.{ends_by_rule, conflicts_at_most, conflicts_counted}
use Rattle.solo_core.proofs.laws.ends.law_stretch_ends_by_rule.Goals as goal

pub returns : goal.returns
returns c = record { rule = ends_by_rule; at_most = conflicts_at_most; counted = conflicts_counted }
