use Rattle.formula_kinds.proofs.Cells.{cells}
use Rattle.formula_kinds.proofs.laws.law_cells.Goals as goal

pub returns : goal.returns
returns c = cells
