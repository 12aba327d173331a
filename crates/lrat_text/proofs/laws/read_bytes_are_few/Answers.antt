use Rattle.lrat_text.proofs.Fed.{has_read_few}
use Rattle.lrat_text.proofs.laws.read_bytes_are_few.Goals as goal

pub returns : goal.returns
returns c = has_read_few
