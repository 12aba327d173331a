use Rattle.std.proofs.Common.{subst, sym, ap, ◌∙◌, All}
use Rattle.lit_base.specs.Literal.{IsWithin}
use Rattle.lit_base.specs.Distinct.{distinct}
use Rattle.lit_base.proofs.DistinctLits.{All-distinct}
use Rattle.cnf_text.proofs.progress.Progress.take_end.Goals as goal

-- the distinct literals are of the formula's variables, as all are
pub push-requires-clause-within : goal.push-requires-clause-within
push-requires-clause-within c =
    let e = c.in_ok-clause.ensures.value ∙ ap distinct c.as_slice.ensures in
    subst (All (IsWithin c.self.inside.formula.variables)) (sym e) (All-distinct (IsWithin c.self.inside.formula.variables) c.self.inside.literals c.self.invariant.within)
