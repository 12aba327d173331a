use Rattle.std.proofs.Common.{◌≡◌, ◌+◌, ◌-◌, ◌++◌, ◌∷◌, [], map, append_assoc, ap, ◌∙◌, arith, suc}
use Rattle.crew.specs.Run.{first_member, members_from}
use Rattle.crew.specs.Turns.{begun}
use Rattle.crew.specs.declared.searcher.Searcher.{Searcher}
use Rattle.crew.proofs.turns.make_all.Goals as goal

-- one core more is there, and one less is to come
pub loop-number-preserved : goal.loop-number-preserved
loop-number-preserved c =
    let cnf = c.args.formula.now in
    let settings = c.args.settings.now in
    let number = c.loop-number.number in
    let one = begun (first_member cnf settings number) in
    let rest = map begun (members_from cnf settings (number + 1) (settings.cores - (number + 1))) in
    ap (λ searchers. searchers ++ rest)
    (c.in_ok-push.ensures.items ∙ ap (λ (s : Searcher). c.loop-number.searchers.items ++ s ∷ []) c.in_ok-make_one.ensures)
    ∙ append_assoc c.loop-number.searchers.items (one ∷ []) rest
    ∙ ap (λ more. c.loop-number.searchers.items ++ map begun (members_from cnf settings number more))
    (let e : suc (settings.cores - (number + 1)) ≡ settings.cores - number = omega arith in e)
    ∙ c.loop-number.invariant
