use Rattle.std.proofs.Common.{sym, subst, ◌∙◌}
use Rattle.std.specs.List.{IsDistinct}
use Rattle.lit_base.specs.Literal.{same}
use Rattle.lit_base.proofs.Apart.{distinct_apart}
use Rattle.lit_base.proofs.DistinctLits.{items_of}
use Rattle.lit_base.proofs.clause.Clause.of.Goals as goal
use Rattle.lit_base.proofs.clause.Clause.of.Goals.{then-lits-le-SHORT+in_ok-lits, else-lits-le-SHORT+in_ok-lits-2}

-- either way keeps the distinct literals, which are distinct
pub invariant_of-result : goal.invariant_of-result
invariant_of-result c = elim c.if-lits-le-SHORT.branch [
  | then-lits-le-SHORT+in_ok-lits w ↦ subst (IsDistinct same) (sym (items_of w.lits-is ∙ w.in_ok-lits.ensures)) (distinct_apart c.args.lits.now)
  | else-lits-le-SHORT+in_ok-lits-2 w ↦ subst (IsDistinct same) (sym (items_of w.lits-is ∙ w.in_ok-lits-2.ensures)) (distinct_apart c.args.lits.now)
]
