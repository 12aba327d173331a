use Rattle.crew.proofs.RunOutcome.{lemmas_counted}
use Rattle.crew.proofs.RunLog.{run_numbered, run_in_order, run_text}
use Rattle.crew.proofs.laws.law_log_follows.Goals as goal

pub returns : goal.returns
returns c = record { numbered = run_numbered; in_order = run_in_order; text = run_text; counted = lemmas_counted }
