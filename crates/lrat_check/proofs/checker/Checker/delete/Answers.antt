use Rattle.std.proofs.Common.{◌≤◌, ◌∙◌, get_or, length}
use Rattle.lit_base.specs.Judgement.{without_id}
use Rattle.lrat_check.specs.Clauses.{lits_at}
use Rattle.lrat_check.proofs.Lives.{found_less, deletes_one, deletes_none, deletes_all}
use Rattle.lrat_check.proofs.checker.Checker.delete.Goals as goal

-- an id isn't that of a live clause
pub returns-then-not-remove : goal.returns-then-not-remove
returns-then-not-remove c live holds =
    let left = c.loop-index.invariant live holds in
    left.1 ∙ deletes_none c.args.line c.args.ids.now c.loop-index.index left.0 (lits_at c.loop-index.self.clauses) c.loop-index-test.true left.2.found c.if-not-remove.ensures.found

-- it is
pub loop-index-preserved : goal.loop-index-preserved
loop-index-preserved c live holds =
    let left = c.loop-index.invariant live holds in
    let id = get_or c.args.ids.now c.loop-index.index 0 in (
      without_id id left.0,
      left.1 ∙ deletes_one c.args.line c.args.ids.now c.loop-index.index left.0 (lits_at c.loop-index.self.clauses) c.loop-index-test.true left.2.found c.if-not-remove.ensures.found,
      record {
        last = left.2.last;
        found = found_less (lits_at c.loop-index.self.clauses) (lits_at c.remove.new.self) id left.0 c.if-not-remove.ensures.removed left.2.found;
        within = c.if-not-remove.ensures.within left.2.within;
        sound = left.2.sound;
      },
    )

-- all are deleted, and packing keeps the others
pub returns : goal.returns
returns c live holds =
    let left = c.loop-index.invariant live holds in
    let all : length c.args.ids.now ≤ c.loop-index.index = c.loop-index-test.false in (
      left.0,
      left.1 ∙ deletes_all c.args.line c.args.ids.now c.loop-index.index left.0 all,
      record {
        last = left.2.last;
        found = λ n. c.in_ok-pack.ensures.same left.2.within n ∙ left.2.found n;
        within = c.in_ok-pack.ensures.within left.2.within;
        sound = left.2.sound;
      },
    )
