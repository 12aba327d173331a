use Rattle.crew.proofs.RunOutcome.{winner_exactly, winner_end, winner_lowest}
use Rattle.crew.proofs.laws.law_winner_is_first.Goals as goal

pub returns : goal.returns
returns c = record { exactly = winner_exactly; own_end = winner_end; lowest = winner_lowest }
