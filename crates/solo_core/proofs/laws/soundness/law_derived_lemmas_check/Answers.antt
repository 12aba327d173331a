use Rattle.solo_core.proofs.LogChecks.{log_in_order, log_checks}
use Rattle.solo_core.proofs.laws.soundness.law_derived_lemmas_check.Goals as goal

pub returns : goal.returns
returns c = record { in_order = log_in_order; checks = log_checks }
