use Rattle.formula_kinds.proofs.Within.{formula_within}
use Rattle.formula_kinds.proofs.laws.law_literals_are_within.Goals as goal

pub returns : goal.returns
returns c = formula_within
