-- The formulas that are generated.
use Rattle.std.specs.Prelude.{ℕ}
use Rattle.lit_base.specs.Cnf.{Cnf}
use Rattle.formula_kinds.specs.declared.kind.Kind.{Kind}
use Rattle.formula_kinds.specs.declared.kind.Kind.TheVariants.{Hole, Grid, Rand}
use Rattle.formula_kinds.specs.Hole.{hole_formula}
use Rattle.formula_kinds.specs.Grid.{grid_formula}
use Rattle.formula_kinds.specs.Rand.{rand_formula}

-- the formula of a kind; the seed matters for random clauses alone
abbrev pub formula_of : Kind → ℕ → ℕ → Cnf
formula_of Hole n seed = hole_formula n
formula_of Grid n seed = grid_formula n
formula_of Rand n seed = rand_formula n seed
