use Rattle.std.proofs.Common.{ap, sym, ◌∙◌, subst}
use Rattle.std.specs.Prelude.{length}
use Rattle.lit_base.specs.Fits.{HasDistinctVariables}
use Rattle.trail_book.specs.TrailState.{TrailState}
use Rattle.round_prop.specs.FreshClauses.{clauses_of_fresh}
use Rattle.round_prop.specs.Attached.{IsAttached}
use Rattle.round_prop.specs.Spanned.{AreSpanned, IsPlacedIn}
use Rattle.round_prop.proofs.Arriving.{first_attached, first_roomy}
use Rattle.round_prop.proofs.rounds.Rounds.make.Goals as goal

-- there is room for nothing, and the empty trail has no entry
pub invariant_of-result : goal.invariant_of-result
invariant_of-result c =
    let none = ap (λ (t : TrailState). t.entries) (c.of-2.ensures ∙ c.in_ok-empty.ensures) in (
      first_roomy c.args.variables c.in_ok-table.table _ _ _ c.in_ok-table.ensures.ready c.in_ok-table.ensures.empty.0 c.new.ensures.len c.new-2.ensures.len,
      sym (ap length none),
      subst HasDistinctVariables (sym none) tt,
    )

-- nothing is attached
pub returns-clause-attached : goal.returns-clause-attached
unfolding IsAttached
returns-clause-attached c =
    let none = ap (λ (t : TrailState). t.entries) (c.of-2.ensures ∙ c.in_ok-empty.ensures) in
    first_attached _ c.args.variables (ap clauses_of_fresh c.new-2.ensures.items) c.in_ok-table.ensures.empty.0 c.new.ensures.items none c.in_ok-table.ensures.ready

-- there is no row
pub returns-clause-placed : goal.returns-clause-placed
unfolding IsPlacedIn
returns-clause-placed c = λ added. subst (AreSpanned added) (sym c.in_ok-table.ensures.empty.0) tt
