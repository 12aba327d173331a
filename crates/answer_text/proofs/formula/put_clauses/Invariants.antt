use Rattle.std.proofs.Common.{◌++◌, drop}
use Rattle.std.specs.Prelude.{flat_map}
use Rattle.cnf_text.specs.Spelling.{clause_line}
use Rattle.answer_text.specs.Gathering.{IsUnderway}
use Rattle.answer_text.proofs.formula.put_clauses.Given as goal

-- the lines from this clause on are still to come
abbrev pub invariant-loop-clause : goal.invariant-loop-clause
invariant-loop-clause g l =
    IsUnderway (l.initial.buffer.items ++ flat_map clause_line l.clauses) l.buffer.items (flat_map clause_line (drop l.clause-index l.clauses)) (g.O.Outputs.told l.initial.outputs) (g.O.Outputs.told l.outputs)
