use Rattle.std.proofs.Common.{◌≤◌}
use Rattle.tempo.proofs.tests.values_and_restarts_are_those_of_the_sequence.Given as goal

abbrev pub invariant-loop-n : goal.invariant-loop-n
invariant-loop-n g l = l.tempo.t ≤ l.n-counter
