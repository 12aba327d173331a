use Rattle.std.proofs.Common.{subst}
use Rattle.round_prop.specs.Linked.{IsOther}
use Rattle.round_prop.proofs.FirstRows.{beside_found, beside_latest}
use Rattle.round_prop.proofs.table.beside.Goals as goal

pub returns-in-Some : goal.returns-in-Some
returns-in-Some c = beside_found c.args.trail.now.entries c.args.lits.now c.args.other c.in-Some.lit (subst (λ o. IsOther c.args.trail.now.entries c.args.lits.now c.args.other o) c.in-Some.is c.other_link.ensures)

pub returns : goal.returns
returns c = beside_latest c.args.trail.now.entries c.args.lits.now c.args.other c.latest.result (subst (λ o. IsOther c.args.trail.now.entries c.args.lits.now c.args.other o) c.in_default.is c.other_link.ensures) c.latest.ensures
