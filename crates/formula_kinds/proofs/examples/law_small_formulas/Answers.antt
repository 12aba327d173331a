use Rattle.std.proofs.Common.{refl}
use Rattle.std.specs.Fmt.{digits}
use Rattle.formula_kinds.proofs.examples.law_small_formulas.Goals as goal

pub returns-clause-one_hole : goal.returns-clause-one_hole
unfolding digits
returns-clause-one_hole c = refl

pub returns-clause-two_holes : goal.returns-clause-two_holes
unfolding digits
returns-clause-two_holes c = refl

pub returns-clause-one_cell : goal.returns-clause-one_cell
unfolding digits
returns-clause-one_cell c = refl

pub returns-clause-four_cells : goal.returns-clause-four_cells
unfolding digits
returns-clause-four_cells c = refl

pub returns-clause-random : goal.returns-clause-random
unfolding digits
returns-clause-random c = refl
