use Rattle.trail_book.proofs.Jumps.{higher_leave, last_values_stay}
use Rattle.trail_book.proofs.laws.law_jump.Goals as goal

pub returns-clause-leave : goal.returns-clause-leave
returns-clause-leave c = higher_leave

pub returns-clause-last : goal.returns-clause-last
returns-clause-last c = last_values_stay
