use Rattle.std.proofs.Common.{◌≡◌, false, refl, sym, subst, IsSome}
use Rattle.crew.specs.declared.searcher.Searcher.{Searcher}
use Rattle.crew.proofs.InTurn.{member_at}
use Rattle.crew.proofs.party.mail_one.Goals as goal

-- the stretch is made
pub post-requires-clause-ended : goal.post-requires-clause-ended
post-requires-clause-ended c whole =
    let at = member_at c.args._formula.now c.args._settings.now c.args._past c.args._core c.requires.within in
    subst (λ (s : Searcher). IsSome s.core.ended) (sym (c.requires.worked at.0 at.1 whole)) refl

-- and no sheet given
pub post-requires-clause-once : goal.post-requires-clause-once
post-requires-clause-once c whole =
    let at = member_at c.args._formula.now c.args._settings.now c.args._past c.args._core c.requires.within in
    subst (λ (s : Searcher). s.core.is_handed ≡ false) (sym (c.requires.worked at.0 at.1 whole)) refl
