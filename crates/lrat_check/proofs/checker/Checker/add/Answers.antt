use Rattle.std.proofs.Common.{◌<◌, refl, arith}
use Rattle.lit_base.specs.Judgement.{with_lemma}
use Rattle.lrat_check.specs.Clauses.{lits_at}
use Rattle.lrat_check.proofs.Lives.{adds, found_more}
use Rattle.lrat_check.proofs.checker.Checker.add.Goals as goal

-- the lemma follows
pub returns : goal.returns
returns c live holds =
    let clauses = c.args.self.now.clauses in
    let rises : live.last < c.args.id = omega (arith, c.if-id-self.false, holds.last) in (
      with_lemma c.args.id c.args.lits.now live,
      adds c.args.line c.args.id c.args.lits.now c.args.hints.now live (lits_at clauses) c.in_ok-judge_lemma.field-0 rises holds.found c.in_ok-judge_lemma.ensures c.in-Follows.is,
      record {
        last = refl;
        found = found_more (lits_at clauses) (lits_at c.put.new.self) c.args.id c.args.lits.now live (c.in_ok-put.ensures.put holds.within) holds.found;
        within = c.in_ok-put.ensures.within holds.within;
        sound = holds.sound;
      },
    )
