use Rattle.board_rule.proofs.Arriving.{arrives}
use Rattle.board_rule.proofs.laws.law_arrive.Goals as goal

pub returns : goal.returns
returns g c = λ terms slots id a held may. arrives g.T.Told.fits terms.parties terms.occasion.value slots id a held may
