use Rattle.formula_kinds.proofs.NoRoom.{no_room}
use Rattle.formula_kinds.proofs.laws.law_no_room.Goals as goal

pub returns : goal.returns
returns c = no_room
