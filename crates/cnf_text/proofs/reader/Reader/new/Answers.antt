use Rattle.std.proofs.Common.{refl}
use Rattle.cnf_text.proofs.Fed.{has_read_nothing}
use Rattle.cnf_text.proofs.reader.Reader.new.Goals as goal

pub returns : goal.returns
returns c = has_read_nothing _ c.new.ensures refl refl
