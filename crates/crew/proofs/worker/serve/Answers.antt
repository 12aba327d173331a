use Rattle.std.proofs.Common.{◌∙◌, All, subst}
use Rattle.std.specs.Prelude.{Some}
use Rattle.crew.specs.Groups.{list_of}
use Rattle.crew.specs.Parties.{PartyDone}
use Rattle.crew.specs.Working.{AllReceive}
use Rattle.crew.proofs.LastEra.{last_only}
use Rattle.crew.proofs.worker.serve.Goals as goal

-- the era that ends the run is its last
pub returns-in-Over : goal.returns-in-Over
returns-in-Over g c =
    let board = c.args.board.now in
    let cnf = c.args.formula.now in
    let settings = c.args.settings.now in
    let past = c.loop-past.past in
    let list = list_of c.receive_group.new.group in
    let ended = subst (λ step. AllReceive board cnf settings past list (Some step)) c.in-Over.is c.in-Some.ensures.receives in (
      subst (λ p. All (PartyDone board cnf settings p) list) (last_only cnf settings past c.requires.range c.loop-past.invariant.has ended.0) ended.1,
      c.in-Some.ensures.numbers ∙ c.send_group.ensures.numbers ∙ c.loop-past.invariant.numbers,
    )
