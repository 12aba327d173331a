use Rattle.std.proofs.Common.{sym, subst, All}
use Rattle.lit_base.specs.Literal.{IsWithin}
use Rattle.lit_base.proofs.DistinctLits.{All-distinct}
use Rattle.formula_kinds.proofs.push.push_clause.Goals as goal

-- what holds of the literals holds of the distinct ones
pub push-requires-clause-within : goal.push-requires-clause-within
push-requires-clause-within c =
    let within = IsWithin c.args.formula.now.variables in
    subst (All within) (sym c.in_ok-of.ensures) (All-distinct within c.args.lits.now c.requires.within)
