use Rattle.std.proofs.Common.{arith}
use Rattle.lrat_check.specs.Clauses.{lits_at}
use Rattle.lrat_check.proofs.Lives.{original_more}
use Rattle.lrat_check.proofs.checker.originals.Goals as goal

-- one clause more
pub loop-index-preserved : goal.loop-index-preserved
loop-index-preserved c = record {
  found = original_more (lits_at c.loop-index.clauses) (lits_at c.put.new.self) c.args.formula.now c.loop-index.index c.lits.result.now c.index-formula-index.result (omega arith)
      c.index-formula-index.is c.lits.ensures.value (c.in_ok-put.ensures.put c.loop-index.invariant.within) c.loop-index.invariant.found;
  within = c.in_ok-put.ensures.within c.loop-index.invariant.within;
}
