use Rattle.cnf_text.proofs.Fed.{has_read_short}
use Rattle.cnf_text.proofs.laws.read_bytes_are_few.Goals as goal

pub returns : goal.returns
returns c = has_read_short
