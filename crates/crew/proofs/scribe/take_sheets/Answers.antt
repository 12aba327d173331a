use Rattle.std.proofs.Common.{rules, ◌≡◌, ap, arith, ◌∙◌, take}
use Rattle.crew.specs.Era.{sheet_left}
use Rattle.crew.specs.Run.{sheets_at}
use Rattle.crew.proofs.OnBoard.{came_more, all_came}
use Rattle.crew.proofs.scribe.take_sheets.Goals as goal

-- the sheets of all cores are there
pub returns-clause-sheets : goal.returns-clause-sheets
returns-clause-sheets c fine =
    let cnf = c.args.formula.now in
    let settings = c.args.settings.now in
    let past = c.args.past in
    let end : c.loop-from.from ≡ settings.cores = omega (arith, c.loop-from.auto.from-end, c.loop-from-test.false) in
    all_came sheet_left cnf settings past c.loop-from.sheets.items (c.loop-from.invariant.4 fine ∙ ap (λ n. take n (sheets_at cnf settings past)) end)

-- one more is there
pub loop-from-preserved : goal.loop-from-preserved
loop-from-preserved c = (
  search rules,
  search rules,
  search rules,
  search rules,
  λ fine. let more = c.keep-fine.ensures fine in
      came_more sheet_left c.args.formula.now c.args.settings.now c.args.past c.loop-from.from c.loop-from.sheets.items c.keep-fine.new.kept.items c.take_sheet-sheet.result c.loop-from-test.true c.take_sheet-sheet.ensures.sheet
      (c.loop-from.invariant.4 more.0) more.1,
)
