use Rattle.crew.proofs.OnBoard.{may_begin}
use Rattle.crew.proofs.party.stretch_at.Goals as goal

-- a core at the start of its era may make the stretch
pub stretch_one-requires-after_bounds : goal.stretch_one-requires-after_bounds
stretch_one-requires-after_bounds g c κs within =
    may_begin c.args._formula.now c.args._settings.now c.args._past c.args._core c.args.searcher.now c.requires.era c.requires.within c.requires.begun
