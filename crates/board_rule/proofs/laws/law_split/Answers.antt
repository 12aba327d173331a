use Rattle.board_rule.proofs.Seating.{splits}
use Rattle.board_rule.proofs.laws.law_split.Goals as goal

pub returns : goal.returns
returns g c = λ terms id number more. splits g.T.Told.fits terms.parties terms.occasion.value id number more
