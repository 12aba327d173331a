use Rattle.board_rule.proofs.Sending.{lifts_to_fill}
use Rattle.board_rule.proofs.laws.law_lift_fill.Goals as goal

pub returns : goal.returns
returns g c = λ terms slots id a held to may. lifts_to_fill g.T.Told.fits terms.parties terms.occasion.value slots id a held to may
