use Rattle.formula_kinds.proofs.Sizes.{length-hole, length-grid, length-rand}
use Rattle.formula_kinds.proofs.laws.law_sizes.Goals as goal

pub returns-clause-hole_clauses : goal.returns-clause-hole_clauses
returns-clause-hole_clauses c = length-hole

pub returns-clause-grid_clauses : goal.returns-clause-grid_clauses
returns-clause-grid_clauses c = length-grid

pub returns-clause-rand_clauses : goal.returns-clause-rand_clauses
returns-clause-rand_clauses c = length-rand
