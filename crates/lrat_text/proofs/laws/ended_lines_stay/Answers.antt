use Rattle.lrat_text.proofs.Whole.{ended_lines_are_first}
use Rattle.lrat_text.proofs.laws.ended_lines_stay.Goals as goal

pub returns : goal.returns
returns c = ended_lines_are_first
