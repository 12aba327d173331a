use Rattle.std.proofs.Common.{◌∙◌, ap, arith}
use Rattle.era_board.specs.Passes.{account}
use Rattle.crew.specs.Run.{first_member}
use Rattle.crew.specs.Turns.{begun}
use Rattle.crew.proofs.Handing.{made_rests, made_number, made_arrivals, made_in, first_at}
use Rattle.crew.proofs.passes.party_of.Goals as goal

-- the pass is as it was made, and its core is the first of its number
pub returns-clause-party : goal.returns-clause-party
returns-clause-party c =
    let board = c.args._board.now in
    let cnf = c.args.formula.now in
    let settings = c.args.settings.now in
    let pass = c.args.pass in
    let made = c.requires.pass in
    record {
      pass = made_in board cnf settings c.args._number pass made c.requires.parties;
      core = omega (arith, made_number board cnf settings c.args._number pass made, c.requires.core);
      rest = made_rests board cnf settings c.args._number pass made;
      arrivals = made_arrivals board cnf settings c.args._number pass made;
      begun = λ whole m at. c.in_ok-searcher.ensures ∙ ap (λ i. begun (first_member cnf settings i)) c.number-core.ensures ∙ ap begun (first_at cnf settings (account pass).number m at);
    }
