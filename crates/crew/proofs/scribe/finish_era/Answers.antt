use Rattle.std.proofs.Common.{◌+◌, false, sym, ◌∙◌, subst}
use Rattle.std.proofs.lemmas.Option.{none-some}
use Rattle.crew.specs.Scribing.{LogStands}
use Rattle.crew.proofs.Turning.{over_told, over_with, on_with}
use Rattle.crew.proofs.Standing.{stands_on, stands_whole, stands_front}
use Rattle.crew.proofs.scribe.finish_era.Goals as goal

-- the run is over
pub returns-in-Some-clause-writes : goal.returns-in-Some-clause-writes
returns-in-Some-clause-writes g c start before =
    stands_whole c.args.formula.now c.args.settings.now c.args.past c.args.log start (g.O.Outputs.told c.args.outputs.now) (g.O.Outputs.told c.conclude.new.outputs) c.requires.era before
    (over_with c.args.formula.now c.args.settings.now c.args.past c.in-Ok.ended c.in-Some.outcome c.in-Ok.ensures.outcome c.in-Some.is).0 c.in-Ok.ensures.writes

-- or it goes on
pub returns-in-None-clause-writes : goal.returns-in-None-clause-writes
returns-in-None-clause-writes g c start before =
    subst (LogStands c.args.log c.args.formula.now c.args.settings.now (c.args.past + 1) start (g.O.Outputs.told c.conclude.new.outputs)) (sym c.requires.runs)
    (stands_on c.args.formula.now c.args.settings.now c.args.past c.args.log start (g.O.Outputs.told c.args.outputs.now) (g.O.Outputs.told c.conclude.new.outputs) c.requires.era before
    (on_with c.args.formula.now c.args.settings.now c.args.past c.in-Ok.ended c.in-Ok.ensures.outcome c.in-None.is) c.in-Ok.ensures.writes)

-- or the era's part was not written
pub returns-then-over-clause-writes : goal.returns-then-over-clause-writes
returns-then-over-clause-writes g c start before =
    stands_front c.args.formula.now c.args.settings.now c.args.past c.args.log start (g.O.Outputs.told c.args.outputs.now) (g.O.Outputs.told c.conclude.new.outputs) c.requires.era before c.in-Err.why c.in-Err.ensures.writes

pub returns-else-over-clause-writes : goal.returns-else-over-clause-writes
returns-else-over-clause-writes g c start before =
    stands_front c.args.formula.now c.args.settings.now c.args.past c.args.log start (g.O.Outputs.told c.args.outputs.now) (g.O.Outputs.told c.conclude.new.outputs) c.requires.era before c.in-Err.why c.in-Err.ensures.writes

pub returns-else-over-clause-written : goal.returns-else-over-clause-written
returns-else-over-clause-written g c = (
  over_told c.args.formula.now c.args.settings.now c.args.past c.as_slice.result.now c.is_over-over.result false (c.as_slice.ensures.value ∙ c.requires.sheets) c.is_over-over.ensures c.if-over.false,
  λ none. absurd (none-some c.in-Err.why (sym none)),
)
