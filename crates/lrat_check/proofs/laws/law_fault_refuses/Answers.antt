use Rattle.lrat_check.proofs.Ends.{fault_refuses}
use Rattle.lrat_check.proofs.laws.law_fault_refuses.Goals as goal

pub returns : goal.returns
returns c = fault_refuses
