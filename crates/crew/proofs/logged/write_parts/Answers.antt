use Rattle.crew.proofs.LogSteps.{sheet_has, sheet_written, sheet_stopped}
use Rattle.crew.proofs.logged.write_parts.Goals as goal

pub write_standing-requires : goal.write_standing-requires
write_standing-requires g c =
    sheet_has c.args.numbers.now c.args.winner c.args.sheets.now c.loop-sheet.sheet-index c.sheet-item.result c.loop-sheet-test.true c.sheet-item.is c.requires

-- the writing stopped at a part
pub returns-in_err-write_standing : goal.returns-in_err-write_standing
returns-in_err-write_standing g c =
    sheet_stopped c.args.numbers.now c.args.winner c.args.sheets.now c.loop-sheet.sheet-index c.sheet-item.result (g.O.Outputs.told c.args.outputs.now) (g.O.Outputs.told c.loop-sheet.outputs)
    (g.O.Outputs.told c.write_standing.new.outputs) c.from_residual.result c.in_err-write_standing.field-0.0 c.loop-sheet-test.true c.sheet-item.is c.from_residual.ensures.1 c.loop-sheet.invariant c.in_err-write_standing.ensures

-- one more part is written
pub loop-sheet-preserved : goal.loop-sheet-preserved
loop-sheet-preserved g c =
    sheet_written c.args.numbers.now c.args.winner c.args.sheets.now c.loop-sheet.sheet-index c.sheet-item.result (g.O.Outputs.told c.args.outputs.now) (g.O.Outputs.told c.loop-sheet.outputs)
    (g.O.Outputs.told c.write_standing.new.outputs) c.loop-sheet-test.true c.sheet-item.is c.loop-sheet.invariant c.in_ok-write_standing.ensures
