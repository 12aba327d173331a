use Rattle.answer_text.proofs.ReadBack.{same_rows}
use Rattle.answer_text.proofs.laws.law_rows_are_read_back.Goals as goal

pub returns : goal.returns
returns c = same_rows
