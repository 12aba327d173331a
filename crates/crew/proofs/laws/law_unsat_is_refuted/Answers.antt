use Rattle.crew.proofs.RunLog.{unsat_ends_empty, unsat_checks, unsat_no_model}
use Rattle.crew.proofs.laws.law_unsat_is_refuted.Goals as goal

pub returns : goal.returns
returns c = record { empty_last = unsat_ends_empty; checks = unsat_checks; no_model = unsat_no_model }
