use Rattle.std.proofs.Common.{◌≡◌, List, ℕ, replicate, sym, subst, Option, None, rules}
use Rattle.atomic_table.specs.Table.{opening}
use Rattle.board_rule.specs.Accounts.{maker_view}
use Rattle.board_rule.specs.Board.{BoardRule}
use Rattle.era_board.proofs.board.Board.make.Goals as goal

pub vacant-requires : goal.vacant-requires
vacant-requires g c = let o = c.of.result.value in let n = c.args.parties in
    let zeros : c.as_slice.result.now ≡ replicate 2194 0 = search rules in
    subst (λ (words : List ℕ). BoardRule g.T.Told.fits n o (opening words (replicate {A = Option g.row.T.Denot} 2178 None) (maker_view o n 0))) (sym zeros)
    (c.law_start.ensures (record { parties = n; occasion = c.of.result }) c.requires.some_party c.requires.few_parties)
