use Rattle.std.proofs.Common.{length}
use Rattle.answer_text.specs.Summary.{race_line, size_line, outcome_lines}
use Rattle.answer_text.proofs.Parts.{three_parts}
use Rattle.answer_text.proofs.summary.summary_of.Goals as goal

-- the three parts, one behind the other
pub returns : goal.returns
returns c =
    three_parts (race_line c.args.kind c.args.n) (size_line c.args.formula.now.variables (length c.args.formula.now.clauses)) (outcome_lines c.args.outcome.now)
    c.push_race.new.text.items c.push_size.new.text.items c.push_outcome.new.text.items (rw c.new-text.ensures.items at c.in_ok-push_race.ensures)
    (rw (c.variables.ensures.value, c.len.ensures.value) at c.in_ok-push_size.ensures) c.in_ok-push_outcome.ensures
