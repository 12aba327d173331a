use Rattle.std.proofs.Common.{◌+◌, arith, ap, sym, ◌∙◌}
use Rattle.board_rule.specs.declared.views.Account.{Account}
use Rattle.board_rule.specs.Accounts.{fresh}
use Rattle.era_board.specs.Passes.{account}
use Rattle.crew.specs.declared.post.Brief.{Brief}
use Rattle.crew.proofs.passes.make_board.Goals as goal

-- the passes are as they were made
pub returns : goal.returns
returns c = record {
  parties = c.in_ok-made.ensures.parties;
  all = omega (arith, c.in_ok-made.ensures.passes, c.in_ok-made.made.1.ok.0);
  each = λ i pass at. let made = c.in_ok-made.ensures.each i pass at in record {
    given = made.0;
    unused = made.1 ∙ ap (λ (o : Brief). fresh o (c.args.settings.now.cores + 1) i) (sym (ap (λ (a : Account Brief). a.occasion) made.1))
        ∙ ap (λ parties. fresh (account pass).occasion parties i) (sym c.in_ok-made.ensures.parties);
    formula = ap (λ (a : Account Brief). a.occasion.formula.value) made.1 ∙ c.of.ensures;
    range = ap (λ (a : Account Brief). a.occasion.settings) made.1;
  };
}
