use Rattle.std.proofs.Common.{refl}
use Rattle.board_rule.proofs.Seating.{starts_at}
use Rattle.board_rule.proofs.laws.law_start.Goals as goal

pub returns : goal.returns
returns g c = λ terms some_party few. starts_at g.T.Told.fits terms.parties terms.occasion.value 2194 2178 some_party few refl refl
