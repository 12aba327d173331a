use Rattle.std.proofs.Common.{◌+◌, ◌++◌, drop, refl}
use Rattle.std.specs.Prelude.{flat_map}
use Rattle.cnf_text.specs.Spelling.{clause_line}
use Rattle.answer_text.proofs.Passed.{IsUnderway-passed, IsUnderway-stopped, part_comes}
use Rattle.answer_text.proofs.formula.put_clauses.Goals as goal

-- the writing stopped at a clause
pub returns-in_err-put_clause : goal.returns-in_err-put_clause
returns-in_err-put_clause g c =
    let clauses = c.args.clauses.now in
    let i = c.loop-clause.clause-index in
    let line = clause_line c.clause-item.result in
    IsUnderway-stopped line (flat_map clause_line (drop (i + 1) clauses)) (c.loop-clause.buffer.items ++ line) c.put_clause.new.buffer.items _
    c.from_residual.result c.from_residual.ensures.1 c.loop-clause.invariant (part_comes clause_line clauses c.clause-item.result i c.loop-clause-test.true c.clause-item.is) refl
    (rw c.lits.ensures.value at c.in_err-put_clause.ensures)

-- one more clause went through
pub loop-clause-preserved : goal.loop-clause-preserved
loop-clause-preserved g c =
    let clauses = c.args.clauses.now in
    let i = c.loop-clause.clause-index in
    let line = clause_line c.clause-item.result in
    IsUnderway-passed line (flat_map clause_line (drop (i + 1) clauses)) (c.loop-clause.buffer.items ++ line) c.put_clause.new.buffer.items
    c.loop-clause.invariant (part_comes clause_line clauses c.clause-item.result i c.loop-clause-test.true c.clause-item.is) refl (rw c.lits.ensures.value at c.in_ok-put_clause.ensures)
