use Rattle.board_rule.proofs.Receiving.{lays_empty}
use Rattle.board_rule.proofs.laws.law_emptied.Goals as goal

pub returns : goal.returns
returns g c = λ terms slots id a held from moving. lays_empty g.T.Told.fits terms.parties terms.occasion.value slots id a held from moving
