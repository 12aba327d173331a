use Rattle.std.proofs.Common.{arith}
use Rattle.crew.proofs.TraceRows.{none_fuller}
use Rattle.crew.proofs.trace.add_rows.Goals as goal

pub row_of-requires-clause-within : goal.row_of-requires-clause-within
row_of-requires-clause-within c = omega (arith, none_fuller c.args.sheets.now c.loop-sheet.sheet-index c.sheet-item.result c.loop-sheet-test.true c.sheet-item.is, c.requires.largest)
