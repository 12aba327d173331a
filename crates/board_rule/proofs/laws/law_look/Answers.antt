use Rattle.board_rule.proofs.Arriving.{looks}
use Rattle.board_rule.proofs.laws.law_look.Goals as goal

pub returns : goal.returns
returns g c = λ terms slots id a held. looks g.T.Told.fits terms.parties terms.occasion.value slots id a held
