use Rattle.answer_text.proofs.Passed.{IsUnderway-ended}
use Rattle.answer_text.proofs.formula.write_gathered.Goals as goal

-- what was gathered is written
pub returns : goal.returns
returns g c = IsUnderway-ended c.flush.result (rw c.in_ok-buffer.ensures at c.in_ok-put_formula.ensures) c.flush.ensures.writes
