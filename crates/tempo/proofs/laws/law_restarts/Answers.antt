use Rattle.tempo.proofs.Restarts.{none_before, last_is_due, next_place}
use Rattle.tempo.proofs.laws.law_restarts.Goals as goal

pub returns-clause-none_before : goal.returns-clause-none_before
returns-clause-none_before c = none_before

pub returns-clause-last : goal.returns-clause-last
returns-clause-last c = last_is_due

pub returns-clause-next : goal.returns-clause-next
returns-clause-next c = next_place
