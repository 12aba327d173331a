use Rattle.trail_book.proofs.Tellings.{tell_values, tell_order}
use Rattle.trail_book.proofs.laws.law_standing.Goals as goal

pub returns-clause-values : goal.returns-clause-values
returns-clause-values c = tell_values

pub returns-clause-order : goal.returns-clause-order
returns-clause-order c = tell_order
