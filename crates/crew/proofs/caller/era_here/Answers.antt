use Rattle.std.proofs.Common.{sym, subst}
use Rattle.crew.specs.Scribing.{LogStands, LogLeft}
use Rattle.crew.specs.Places.{EraEnds}
use Rattle.crew.proofs.Serving.{era_ends, log_agrees}
use Rattle.crew.proofs.caller.era_here.Goals as goal

-- the era ended so for all that the caller's thread works for
pub returns-clause-ends : goal.returns-clause-ends
returns-clause-ends g c =
    let board = c.args.board.now in
    let cnf = c.args.formula.now in
    let settings = c.args.settings.now in
    let scribe = c.scribe_receive-written.new.scribe in
    let places = c.receive_here-came.new.places.items in
    subst (EraEnds board cnf settings c.args.log c.args.past places scribe) (sym c.agreed.ensures)
    (era_ends board cnf settings c.args.log c.args.past places scribe c.receive_here-came.result scribe.stop c.scribe_receive-written.result
    c.receive_here-came.ensures.receives c.scribe_receive-written.ensures.receives)

-- and this stands of the log
pub returns-clause-writes : goal.returns-clause-writes
returns-clause-writes g c start stands =
    let board = c.args.board.now in
    let cnf = c.args.formula.now in
    let settings = c.args.settings.now in
    let scribe = c.scribe_receive-written.new.scribe in
    let before = g.O.Outputs.told c.args.outputs.now in
    let after = g.O.Outputs.told c.scribe_receive-written.new.outputs in
    let left = c.scribe_receive-written.ensures.writes start
    (subst (LogStands c.args.log cnf settings c.args.past start before) (sym c.scribe_send.ensures.stop) stands) in
    subst (LogLeft c.args.log cnf settings c.args.past start after scribe.stop) (sym c.agreed.ensures)
    (log_agrees board cnf settings c.args.log c.args.past start after scribe c.receive_here-came.result c.scribe_receive-written.result c.requires.era
    c.scribe_receive-written.ensures.receives left)
