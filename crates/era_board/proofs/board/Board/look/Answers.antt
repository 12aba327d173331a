use Rattle.std.proofs.Common.{[], refl, arith}
use Rattle.board_rule.specs.Steps.{looked}
use Rattle.era_board.specs.Passes.{account}
use Rattle.era_board.proofs.Acts.{at_seat}
use Rattle.era_board.proofs.board.Board.look.Goals as goal

pub load-found-requires : goal.load-found-requires
load-found-requires g c =
    let p = c.args.pass.now in let b = c.args.self.now in (
      c.requires.board.0,
      omega (arith, b.words),
      at_seat _ _ _ 0 _ _ 0 0 (λ word. word) looked p.party refl (c.law_look.ensures b.table.shared.key b.table.shared.table_id.slots p.seat.id (account p) []),
    )
