use Rattle.job_words.proofs.Ranges.{job_has_its_command, job_is_in_range}
use Rattle.job_words.proofs.laws.law_jobs.Goals as goal

pub returns-clause-command : goal.returns-clause-command
returns-clause-command c = job_has_its_command

pub returns-clause-range : goal.returns-clause-range
returns-clause-range c = job_is_in_range
