use Rattle.std.proofs.Common.{◌∙◌, ap}
use Rattle.std.specs.Prelude.{Ok}
use Rattle.log_merge.specs.declared.stop.Stop.TheVariants.{NoMemory as WantOfMemory}
use Rattle.crew.specs.Log.{log_text}
use Rattle.crew.proofs.Serving.{whole_front}
use Rattle.crew.proofs.GivingBack.{some_groups, all_given_back, none_written, stop_told}
use Rattle.crew.proofs.crew_run.run_crew.Goals as goal

-- memory was refused before the run
pub returns-in_err-ready-clause-writes : goal.returns-in_err-ready-clause-writes
returns-in_err-ready-clause-writes g c =
    let text = log_text c.args.formula.now c.args.settings.now in
    let now = g.O.Outputs.told c.args.outputs.now in
    stop_told c.args.log text now now WantOfMemory c.from_residual.result c.from_residual.ensures.1 (none_written c.args.log text now)

-- the run may begin
pub run_groups-requires-clause-range : goal.run_groups-requires-clause-range
run_groups-requires-clause-range g c κs within = c.requires.settings

pub run_groups-requires-clause-formula : goal.run_groups-requires-clause-formula
run_groups-requires-clause-formula g c κs within = c.in_ok-ready.ensures.formula

pub run_groups-requires-clause-parties : goal.run_groups-requires-clause-parties
run_groups-requires-clause-parties g c κs within = c.in_ok-ready.ensures.begun

pub run_groups-requires-clause-scribe : goal.run_groups-requires-clause-scribe
run_groups-requires-clause-scribe g c κs within = c.in_ok-ready.ensures.scribe

pub run_groups-requires-clause-runs : goal.run_groups-requires-clause-runs
run_groups-requires-clause-runs g c κs within = c.in_ok-ready.ensures.runs

-- the run stopped
pub returns-in_err-ran-clause-writes : goal.returns-in_err-ran-clause-writes
returns-in_err-ran-clause-writes g c =
    stop_told c.args.log (log_text c.args.formula.now c.args.settings.now) (g.O.Outputs.told c.args.outputs.now) (g.O.Outputs.told c.run_groups.new.outputs) c.in_err-ran.field-0.0
    c.from_residual-in_err-ran.result c.from_residual-in_err-ran.ensures.1 c.in_err-ran.ensures.writes

-- its passes may be given back
pub hand_back-requires-clause-some : goal.hand_back-requires-clause-some
hand_back-requires-clause-some g c =
    some_groups c.args.board.now c.args.formula.now c.args.settings.now c.args.log c.args.passes.items c.in_ok-ready.ready c.in_ok-ran.ran c.in_ok-ready.ensures c.in_ok-ran.ensures.ran

pub hand_back-requires-clause-parties : goal.hand_back-requires-clause-parties
hand_back-requires-clause-parties g c = c.in_ok-ready.ensures.no_parties

pub hand_back-requires-clause-passes : goal.hand_back-requires-clause-passes
hand_back-requires-clause-passes g c = c.in_ok-ready.ensures.no_passes

-- memory was refused after the run
pub returns-in_err-passes-clause-writes : goal.returns-in_err-passes-clause-writes
returns-in_err-passes-clause-writes g c =
    let text = log_text c.args.formula.now c.args.settings.now in
    let start = g.O.Outputs.told c.args.outputs.now in
    let now = g.O.Outputs.told c.run_groups.new.outputs in
    stop_told c.args.log text start now WantOfMemory c.from_residual-in_err-passes.result c.from_residual-in_err-passes.ensures.1
    (whole_front c.args.board.now c.args.formula.now c.args.settings.now c.args.log start now c.in_ok-ran.ensures.writes)

-- or all went well
pub returns-clause-outcome : goal.returns-clause-outcome
returns-clause-outcome g c = c.in_ok-ran.ensures.ran.outcome

pub returns-clause-writes : goal.returns-clause-writes
returns-clause-writes g c = c.in_ok-ran.ensures.writes

pub returns-clause-passes : goal.returns-clause-passes
returns-clause-passes g c =
    all_given_back c.args.board.now c.args.formula.now c.args.settings.now c.args.log c.args.passes.items c.in_ok-ready.ready c.in_ok-ran.ran c.in_ok-ready.ensures c.in_ok-ran.ensures.ran
    c.in_ok-passes.passes.items c.requires.passes c.in_ok-passes.ensures
