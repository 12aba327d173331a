use Rattle.crew.proofs.RunOutcome.{model_exactly, model_values, model_satisfies}
use Rattle.crew.proofs.laws.law_model_satisfies_formula.Goals as goal

pub returns : goal.returns
returns c = record { exactly = model_exactly; values = model_values; satisfied = model_satisfies }
