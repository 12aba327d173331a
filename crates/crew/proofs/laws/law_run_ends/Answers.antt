use Rattle.crew.proofs.LastEra.{has_last, last_over, last_only, last_within}
use Rattle.crew.proofs.laws.law_run_ends.Goals as goal

pub returns : goal.returns
returns c = record { has = has_last; over = last_over; only = last_only; within = last_within }
