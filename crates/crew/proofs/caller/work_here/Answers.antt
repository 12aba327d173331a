use Rattle.std.proofs.Common.{◌∙◌, All, sym, subst, arith}
use Rattle.crew.specs.Parties.{PartyDone}
use Rattle.crew.specs.Scribing.{ScribeDone, LogLeft}
use Rattle.crew.specs.Working.{PlaceAt}
use Rattle.crew.specs.Places.{EraEnds}
use Rattle.crew.proofs.LastEra.{has_more, last_only}
use Rattle.crew.proofs.Turning.{era_below, run_outcome}
use Rattle.crew.proofs.caller.work_here.Goals as goal

-- the run is over
pub returns-in-Over-clause-outcome : goal.returns-in-Over-clause-outcome
returns-in-Over-clause-outcome g c =
    let cnf = c.args.formula.now in
    let settings = c.args.settings.now in
    let past = c.loop-past.past in
    let ended = subst (EraEnds c.args.board.now cnf settings c.args.log past c.era_here.new.places.items c.era_here.new.scribe) c.in-Over.is c.era_here.ensures.ends in
    run_outcome cnf settings past c.in-Over.outcome c.requires.range c.loop-past.invariant.has ended.0 ended.1

pub returns-in-Over-clause-writes : goal.returns-in-Over-clause-writes
returns-in-Over-clause-writes g c =
    let start = g.O.Outputs.told c.args.outputs.now in
    let after = g.O.Outputs.told c.era_here.new.outputs in
    subst (LogLeft c.args.log c.args.formula.now c.args.settings.now c.loop-past.past start after c.era_here.new.scribe.stop) c.in-Over.is
    (c.era_here.ensures.writes start c.loop-past.invariant.stands)

pub returns-in-Over-clause-places : goal.returns-in-Over-clause-places
returns-in-Over-clause-places g c =
    let board = c.args.board.now in
    let cnf = c.args.formula.now in
    let settings = c.args.settings.now in
    let past = c.loop-past.past in
    let places = c.era_here.new.places.items in
    let ended = subst (EraEnds board cnf settings c.args.log past places c.era_here.new.scribe) c.in-Over.is c.era_here.ensures.ends in
    subst (λ q. All (PlaceAt board cnf settings (PartyDone board cnf settings q)) places) (last_only cnf settings past c.requires.range c.loop-past.invariant.has ended.0) ended.2

pub returns-in-Over-clause-scribe : goal.returns-in-Over-clause-scribe
returns-in-Over-clause-scribe g c =
    let board = c.args.board.now in
    let cnf = c.args.formula.now in
    let settings = c.args.settings.now in
    let past = c.loop-past.past in
    let scribe = c.era_here.new.scribe in
    let ended = subst (EraEnds board cnf settings c.args.log past c.era_here.new.places.items scribe) c.in-Over.is c.era_here.ensures.ends in
    subst (λ q. ScribeDone board cnf settings q scribe) (last_only cnf settings past c.requires.range c.loop-past.invariant.has ended.0) ended.3

-- or it stopped
pub returns-in-Stopped-clause-writes : goal.returns-in-Stopped-clause-writes
returns-in-Stopped-clause-writes g c =
    let start = g.O.Outputs.told c.args.outputs.now in
    let after = g.O.Outputs.told c.era_here.new.outputs in
    subst (LogLeft c.args.log c.args.formula.now c.args.settings.now c.loop-past.past start after c.era_here.new.scribe.stop) c.in-Stopped.is
    (c.era_here.ensures.writes start c.loop-past.invariant.stands)

-- or it goes on
pub loop-past-preserved : goal.loop-past-preserved
loop-past-preserved g c =
    let cnf = c.args.formula.now in
    let settings = c.args.settings.now in
    let l = c.loop-past in
    let start = g.O.Outputs.told c.args.outputs.now in
    let after = g.O.Outputs.told c.era_here.new.outputs in
    let on = subst (EraEnds c.args.board.now cnf settings c.args.log l.past c.era_here.new.places.items c.era_here.new.scribe) c.in-GoesOn.is c.era_here.ensures.ends in
    record {
      has = has_more cnf settings l.past l.invariant.has on.0;
      places_begun = on.1;
      scribing = on.2;
      numbers_kept = c.era_here.ensures.numbers ∙ l.invariant.numbers_kept;
      stands = subst (LogLeft c.args.log cnf settings l.past start after c.era_here.new.scribe.stop) c.in-GoesOn.is (c.era_here.ensures.writes start l.invariant.stands);
    }

-- an era at the limit would be one too many
pub unreachable-requires : goal.unreachable-requires
unreachable-requires g c =
    let below = era_below c.args.formula.now c.args.settings.now c.loop-past.past c.requires.range c.loop-past.invariant.has in omega (arith, below)
