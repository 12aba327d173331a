use Rattle.board_rule.proofs.Sending.{lays_down}
use Rattle.board_rule.proofs.laws.law_laid.Goals as goal

pub returns : goal.returns
returns g c = λ terms slots id a held to mail moving fit. lays_down g.T.Told.fits terms.parties terms.occasion.value slots id a held to mail moving fit
