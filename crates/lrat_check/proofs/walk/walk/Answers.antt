use Rattle.std.proofs.Common.{◌+◌, ◌∙◌, sym, ap, map, drop, arith}
use Rattle.lit_base.specs.Walk.{walk}
use Rattle.lrat_check.specs.Clauses.{lits_at}
use Rattle.lrat_check.proofs.Walks.{walk_passes, walk_implies}
use Rattle.lrat_check.proofs.walk.walk.Goals as goal
use Rattle.lrat_check.proofs.walk.walk.Goals.{in-Satisfied, in-Implies+in_ok-make_true-in-Implies}

-- a hint whose clause is satisfied or unit
pub loop-index-preserved : goal.loop-index-preserved
loop-index-preserved c =
    let look = lits_at c.args.clauses.now in
    let i = c.loop-index.index in
    let rest = map look (drop (i + 1) c.args.hints.now) in
    elim c.match-status_of.branch [
      | in-Satisfied w ↦
          c.loop-index.invariant
          ∙ (walk_passes look c.args.hints.now i c.loop-index.known c.in-Some.lits.now (omega arith) c.in-Some.ensures (sym c.status_of.ensures ∙ w.in-Satisfied.is)
          ∙ ap (λ known. walk (i + 1 + 1) known rest) (sym w.known-is))
      | in-Implies+in_ok-make_true-in-Implies w ↦
          c.loop-index.invariant
          ∙ (walk_implies look c.args.hints.now i c.loop-index.known c.in-Some.lits.now w.in-Implies.lit (omega arith) c.in-Some.ensures (sym c.status_of.ensures ∙ w.in-Implies.is)
          ∙ ap (λ known. walk (i + 1 + 1) known rest) (sym (w.known-is ∙ w.in_ok-make_true-in-Implies.ensures)))
    ]
