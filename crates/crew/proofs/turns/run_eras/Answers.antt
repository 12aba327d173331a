use Rattle.std.proofs.Common.{◌∙◌, Ok, sym, subst, drop, length, arith}
use Rattle.crew.specs.Turns.{HaveWorked}
use Rattle.crew.proofs.InTurn.{rewritten}
use Rattle.crew.proofs.LastEra.{has_more}
use Rattle.crew.proofs.Turning.{era_below, over_with, on_with, no_outcome, run_outcome, written_on, written_all, written_front, refused_front}
use Rattle.crew.proofs.turns.run_eras.Goals as goal

-- the run stopped in an era: a front of the log is written
pub returns-in_err-ended-clause-writes : goal.returns-in_err-ended-clause-writes
returns-in_err-ended-clause-writes g c =
    let l = c.loop-past in
    written_front c.args.formula.now c.args.settings.now l.past c.args.log (g.O.Outputs.told c.args.outputs.now) (g.O.Outputs.told l.outputs) (g.O.Outputs.told c.end_era.new.outputs)
    c.len.ensures.formula c.requires.settings l.invariant.has l.invariant.writes c.in_err-ended.field-0.0 c.from_residual-in_err-ended.result c.from_residual-in_err-ended.ensures.1 c.in_err-ended.ensures.writes

-- the run is over
pub returns-in-Some-clause-outcome : goal.returns-in-Some-clause-outcome
returns-in-Some-clause-outcome g c =
    let l = c.loop-past in
    let over = over_with c.args.formula.now c.args.settings.now l.past c.in_ok-ended.ended c.in-Some.outcome c.in_ok-ended.ensures.outcome c.in-Some.is in
    run_outcome c.args.formula.now c.args.settings.now l.past c.in-Some.outcome c.requires.settings l.invariant.has over.0 over.1

pub returns-in-Some-clause-writes : goal.returns-in-Some-clause-writes
returns-in-Some-clause-writes g c =
    let l = c.loop-past in
    let over = over_with c.args.formula.now c.args.settings.now l.past c.in_ok-ended.ended c.in-Some.outcome c.in_ok-ended.ensures.outcome c.in-Some.is in
    written_all c.args.formula.now c.args.settings.now l.past c.args.log (g.O.Outputs.told c.args.outputs.now) (g.O.Outputs.told l.outputs) (g.O.Outputs.told c.end_era.new.outputs)
    c.len.ensures.formula c.requires.settings l.invariant.has l.invariant.writes over.0 c.in_ok-ended.ensures.writes

-- the run goes on
pub loop-past-preserved : goal.loop-past-preserved
loop-past-preserved g c =
    let l = c.loop-past in
    let on = on_with c.args.formula.now c.args.settings.now l.past c.in_ok-ended.ended c.in_ok-ended.ensures.outcome (no_outcome c.in_ok-ended.ended c.in_default.not-Some) in
    record {
      has = has_more c.args.formula.now c.args.settings.now l.past l.invariant.has on;
      searchers = rewritten c.end_era.new.searchers (drop (length c.end_era.new.searchers) c.stretch.new.arg2.items) c.stretch.new.arg2.len
          (omega (arith, c.stretch.new.arg2.ok.0, c.end_era.auto.searchers, c.as_mut_slice.ensures.len)) ∙ c.in_ok-ended.ensures.next on;
      logged = c.in_ok-ended.ensures.logged on;
      writes = written_on c.args.formula.now c.args.settings.now l.past c.args.log (g.O.Outputs.told c.args.outputs.now) (g.O.Outputs.told l.outputs) (g.O.Outputs.told c.end_era.new.outputs)
          c.len.ensures.formula c.requires.settings l.invariant.has l.invariant.writes on c.in_ok-ended.ensures.writes;
    }

-- an era at the limit would be one too many
pub unreachable-requires : goal.unreachable-requires
unreachable-requires g c =
    let below = era_below c.args.formula.now c.args.settings.now c.loop-past.past c.requires.settings c.loop-past.invariant.has in omega (arith, below)

-- the stretches of the era are made
pub stretch-requires : goal.stretch-requires
stretch-requires g c = c.requires.stretches.may _ c.loop-past.past (record { formula = c.len.ensures.formula; range = c.requires.settings; has = c.loop-past.invariant.has }) c.loop-past.invariant.searchers

pub end_era-requires-clause-worked : goal.end_era-requires-clause-worked
end_era-requires-clause-worked g c =
    subst (HaveWorked c.args.formula.now c.args.settings.now c.loop-past.past) (sym c.as_mut_slice.ensures.value)
    (c.requires.stretches.worked _ c.loop-past.past (Ok c.in_ok-stretch.field-0) _
    (record { formula = c.len.ensures.formula; range = c.requires.settings; has = c.loop-past.invariant.has }) c.loop-past.invariant.searchers c.in_ok-stretch.ensures)

-- or memory was refused for them
pub returns-in_err-stretch-clause-writes : goal.returns-in_err-stretch-clause-writes
returns-in_err-stretch-clause-writes g c =
    let l = c.loop-past in
    refused_front c.args.formula.now c.args.settings.now l.past c.args.log (g.O.Outputs.told c.args.outputs.now) (g.O.Outputs.told l.outputs) (g.O.Outputs.told l.outputs)
    c.len.ensures.formula c.requires.settings l.invariant.has l.invariant.writes c.from_residual.result c.from_residual.ensures.1
