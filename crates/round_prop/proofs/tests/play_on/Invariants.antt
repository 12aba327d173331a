use Rattle.std.proofs.Common.{All}
use Rattle.std.specs.Prelude.{IsTrue}
use Rattle.lit_base.specs.Held.{clauses_of, is_among}
use Rattle.round_prop.specs.Propagation.{MayPropagate}
use Rattle.round_prop.proofs.tests.play_on.Given as goal

-- the clauses so far are held and attached, under these names
abbrev pub invariant-loop-act : goal.invariant-loop-act
invariant-loop-act g l = record {
  may : MayPropagate l.rounds l.pool l.trail;
  names : All (λ c. IsTrue (is_among l.names c.name)) (clauses_of l.pool.held);
}
