use Rattle.lrat_text.proofs.Whole.{early_fault_is_last}
use Rattle.lrat_text.proofs.laws.early_fault_stays.Goals as goal

pub returns : goal.returns
returns c = early_fault_is_last
