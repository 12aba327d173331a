use Rattle.board_rule.proofs.Receiving.{lifts_to_take}
use Rattle.board_rule.proofs.laws.law_lift_take.Goals as goal

pub returns : goal.returns
returns g c = λ terms slots id a held from may. lifts_to_take g.T.Told.fits terms.parties terms.occasion.value slots id a held from may
