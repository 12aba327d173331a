use Rattle.std.proofs.Common.{[], refl, arith}
use Rattle.board_rule.specs.Steps.{arrived}
use Rattle.board_rule.specs.Laws.{MayArrive, more}
use Rattle.era_board.specs.Passes.{account}
use Rattle.era_board.proofs.Acts.{at_seat}
use Rattle.era_board.proofs.board.Board.arrive.Goals as goal

pub fetch_add-found-requires : goal.fetch_add-found-requires
fetch_add-found-requires g c =
    let p = c.args.pass.now in let b = c.args.self.now in let a = account p in
    let may : MayArrive a = record {
      still = p.still;
      known = c.requires.complete;
      more = c.requires.few;
      all_laid = λ to l other. c.requires.all_laid to (omega (arith, l, c.requires.board.1)) other;
      all_taken = λ from l other. c.requires.all_taken from (omega (arith, l, c.requires.board.1)) other;
    } in (
      c.requires.board.0,
      omega (arith, b.words),
      at_seat _ _ _ 1 _ _ 0 0 (more 1) arrived p.party refl (c.law_arrive.ensures b.table.shared.key b.table.shared.table_id.slots p.seat.id a [] may),
    )
