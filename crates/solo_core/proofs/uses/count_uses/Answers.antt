use Rattle.std.proofs.Common.{refl, ◌∙◌, ◌∷◌, [], ◌+◌, ◌^◌, ap, sym, subst, get_or, take, take_all, arith}
use Rattle.std.specs.Prelude.{IsSome}
use Rattle.lit_base.specs.Rounds.{original}
use Rattle.lit_base.specs.Named.{lits_at}
use Rattle.lit_base.specs.Held.{clauses_of, with_uses}
use Rattle.solo_core.specs.Searching.{AreFewUses}
use Rattle.solo_core.proofs.CountedUses.{few_uses-counted, few_uses-at, with_uses-none, with_uses-next, hint_held}
use Rattle.solo_core.proofs.uses.count_uses.Goals as goal

-- no hint is counted yet
pub loop-hint-init : goal.loop-hint-init
loop-hint-init c = record { held = sym (with_uses-none c.args.pool.now.held); added = refl }

-- the next hint is held, and its uses are few
pub count_use-requires : goal.count_use-requires
count_use-requires c =
    let hints = c.args.hints.now in
    let i = c.loop-hint.hint-index in
    let hint = get_or hints i (original 0) in
    record {
      held = subst (λ held. IsSome (lits_at (clauses_of held) hint)) (sym c.loop-hint.invariant.held) (hint_held hints i (original 0) c.args.pool.now.held c.loop-hint-test.true c.requires.held);
      fits = λ uses is.
          let few = few_uses-at (2 ^ 32 + 1) c.loop-hint.pool.held hint
          (subst (AreFewUses (2 ^ 32 + 1)) (sym c.loop-hint.invariant.held) (few_uses-counted (2 ^ 32) (take i hints) c.args.pool.now.held c.requires.few)) uses is in
          omega arith;
    }

-- the next hint is counted
pub loop-hint-preserved : goal.loop-hint-preserved
loop-hint-preserved c =
    let hints = c.args.hints.now in
    let i = c.loop-hint.hint-index in
    record {
      held = c.count_use.ensures.held
          ∙ (ap (λ held. with_uses (get_or hints i (original 0) ∷ []) held) c.loop-hint.invariant.held
          ∙ sym (with_uses-next hints i (original 0) c.args.pool.now.held c.loop-hint-test.true c.requires.distinct));
      added = c.count_use.ensures.added ∙ c.loop-hint.invariant.added;
    }

-- all hints are counted
pub returns-clause-held : goal.returns-clause-held
returns-clause-held c =
    c.loop-hint.invariant.held ∙ ap (λ hints. with_uses hints c.args.pool.now.held) (take_all c.loop-hint.hint-index c.args.hints.now c.loop-hint-test.false)

pub returns-clause-added : goal.returns-clause-added
returns-clause-added c = c.loop-hint.invariant.added
