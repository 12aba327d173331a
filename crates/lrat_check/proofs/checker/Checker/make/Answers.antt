use Rattle.std.proofs.Common.{◌∙◌, ap, refl}
use Rattle.lit_base.specs.Judgement.{first_live, numbered_from, live_lits}
use Rattle.lrat_check.specs.Checking.{HasJudged}
use Rattle.lrat_check.proofs.checker.Checker.make.Goals as goal

pub returns : goal.returns
unfolding HasJudged
returns c = (
  first_live c.args.formula.now,
  refl,
  record {
    last = c.len.ensures.value;
    found = λ id. c.in_ok-originals.ensures.found id ∙ ap (λ clauses. live_lits (numbered_from 1 clauses) id) c.clauses.ensures.value;
    within = c.in_ok-originals.ensures.within;
    sound = refl;
  },
)
