use Rattle.cnf_text.proofs.Whole.{end_is_last}
use Rattle.cnf_text.proofs.laws.end_ends_input.Goals as goal

pub returns : goal.returns
returns c = end_is_last
