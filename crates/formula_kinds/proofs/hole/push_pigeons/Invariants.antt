use Rattle.std.proofs.Common.{◌≡◌, ◌≤◌, length}
use Rattle.formula_kinds.specs.Below.{with_clauses}
use Rattle.formula_kinds.specs.Hole.{pigeon_clauses}
use Rattle.formula_kinds.proofs.hole.push_pigeons.Given as goal

-- the clauses of the pigeons so far were added
abbrev pub invariant-loop-pigeon : goal.invariant-loop-pigeon
invariant-loop-pigeon l = record {
  value : l.formula ≡ with_clauses l.initial.formula (pigeon_clauses l.n l.pigeon);
  room : length l.formula.clauses ≤ l.pigeon;
}
