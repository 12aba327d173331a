use Rattle.std.proofs.Common.{◌++◌, length}
use Rattle.std.specs.Prelude.{flat_map}
use Rattle.cnf_text.specs.Spelling.{clause_line, header_line}
use Rattle.answer_text.proofs.Passed.{IsUnderway-started, IsUnderway-begun, IsUnderway-refused, IsUnderway-last}
use Rattle.answer_text.proofs.formula.put_formula.Goals as goal

-- memory ran out at the first line
pub returns-in_err-push_header : goal.returns-in_err-push_header
returns-in_err-push_header g c =
    let formula = c.args.formula.now in
    IsUnderway-refused _ c.from_residual.result c.from_residual.ensures.1
    (IsUnderway-started c.args.buffer.now.items (header_line formula.variables (length formula.clauses) ++ flat_map clause_line formula.clauses) (g.O.Outputs.told c.args.outputs.now))

-- the first line, and the clauses
pub returns : goal.returns
returns g c =
    let formula = c.args.formula.now in
    let header = header_line formula.variables (length formula.clauses) in
    let lines = flat_map clause_line formula.clauses in
    let begun =
    IsUnderway-begun c.args.buffer.now.items header lines c.push_header.new.buffer.items (g.O.Outputs.told c.args.outputs.now)
    (rw (c.clauses-clauses.ensures.value, c.variables.ensures.value) at c.in_ok-push_header.ensures) in
    IsUnderway-last c.put_clauses.new.buffer.items (g.O.Outputs.told c.put_clauses.new.outputs) c.put_clauses.result begun
    (rw c.clauses-clauses.ensures.value at c.put_clauses.ensures)
