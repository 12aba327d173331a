use Rattle.std.specs.Prelude.{codes, decimal}
use Rattle.answer_text.proofs.Parts.{line_of_two}
use Rattle.answer_text.proofs.summary.push_size.Goals as goal

-- both numbers behind their marks
pub returns : goal.returns
returns c =
    line_of_two c.args.text.now.items (codes "c variables ") (decimal c.args.variables) (codes " clauses ") (decimal c.args.clauses) (codes "\n")
    c.push_word.new.buffer.items c.push_word-2.new.buffer.items c.push_text.new.buffer.items (rw c.from.ensures at c.in_ok-push_word.ensures) c.in_ok-push_word-2.ensures c.in_ok-push_text.ensures
