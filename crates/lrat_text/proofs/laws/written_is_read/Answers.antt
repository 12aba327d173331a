use Rattle.lrat_text.proofs.Written.{written_read}
use Rattle.lrat_text.proofs.laws.written_is_read.Goals as goal

pub returns : goal.returns
returns c = written_read
