use Rattle.lrat_check.proofs.Ends.{judged_sound}
use Rattle.lrat_check.proofs.laws.law_judged_lines_are_sound.Goals as goal

pub returns : goal.returns
returns c = judged_sound
