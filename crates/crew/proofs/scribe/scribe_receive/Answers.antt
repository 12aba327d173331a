use Rattle.std.proofs.Common.{subst}
use Rattle.crew.specs.Scribing.{LogStands}
use Rattle.crew.proofs.Standing.{stands_refused, no_stop}
use Rattle.crew.proofs.scribe.scribe_receive.Goals as goal

-- a party was broken
pub returns-then-not-fine-clause-writes : goal.returns-then-not-fine-clause-writes
returns-then-not-fine-clause-writes g c start stands =
    let told = g.O.Outputs.told c.args.outputs.now in
    stands_refused c.args.formula.now c.args.settings.now c.args.past c.args.log start told told c.requires.era
    (subst (LogStands c.args.log c.args.formula.now c.args.settings.now c.args.past start told) (no_stop c.args.scribe.now.stop c.in_default.not-Some) stands)

-- all sheets are there
pub returns-clause-writes : goal.returns-clause-writes
returns-clause-writes g c start stands =
    c.finish_era.ensures.writes start
    (subst (LogStands c.args.log c.args.formula.now c.args.settings.now c.args.past start (g.O.Outputs.told c.args.outputs.now)) (no_stop c.args.scribe.now.stop c.in_default.not-Some) stands)
