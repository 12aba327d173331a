use Rattle.lrat_text.proofs.Fed.{has_no_early_fault}
use Rattle.lrat_text.proofs.laws.read_bytes_are_sound.Goals as goal

pub returns : goal.returns
returns c = has_no_early_fault
