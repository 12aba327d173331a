use Rattle.dp2ll.proofs.making.race.Goals as goal

-- the summary is that of the run on the formula
pub returns-clause-writes : goal.returns-clause-writes
returns-clause-writes g c = rw (c.in_ok-outcome.ensures.outcome, c.in_ok-formula.ensures, c.in_ok-outcome.ensures.writes.0) at c.say_summary.ensures.writes
