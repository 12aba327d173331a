use Rattle.period_rule.proofs.Periods.{at_most_doubles, empty_doubles, greatest}
use Rattle.period_rule.proofs.laws.law_next_period.Goals as goal

pub returns-clause-at_most_doubles : goal.returns-clause-at_most_doubles
returns-clause-at_most_doubles c = at_most_doubles

pub returns-clause-empty_doubles : goal.returns-clause-empty_doubles
returns-clause-empty_doubles c = empty_doubles

pub returns-clause-greatest : goal.returns-clause-greatest
returns-clause-greatest c = greatest
