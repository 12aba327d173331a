use Rattle.formula_kinds.proofs.Pigeons.{pigeons}
use Rattle.formula_kinds.proofs.laws.law_pigeons.Goals as goal

pub returns : goal.returns
returns c = pigeons
