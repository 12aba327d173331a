use Rattle.solo_core.proofs.Sheets.{sheet_model_exactly, sheet_model_satisfies}
use Rattle.solo_core.proofs.laws.periods.law_model_stands_exactly_at_sat.Goals as goal

pub returns : goal.returns
returns c = record { exactly = sheet_model_exactly; satisfies = sheet_model_satisfies }
