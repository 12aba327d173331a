use Rattle.round_prop.proofs.Spans.{placed_added}
use Rattle.round_prop.proofs.laws.law_places_stay_at_an_add.Goals as goal

pub returns : goal.returns
returns c = placed_added
