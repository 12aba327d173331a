use Rattle.std.proofs.Common.{refl}
use Rattle.lrat_text.proofs.Fed.{has_read_nothing}
use Rattle.lrat_text.proofs.reader.LineReader.new.Goals as goal

pub returns : goal.returns
returns c = has_read_nothing _ c.new.ensures refl refl
