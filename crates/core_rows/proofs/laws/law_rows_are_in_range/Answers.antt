use Rattle.core_rows.proofs.InRange.{row_in_range}
use Rattle.core_rows.proofs.laws.law_rows_are_in_range.Goals as goal

pub returns : goal.returns
returns c = row_in_range
