use Rattle.std.proofs.Common.{◌≡◌, ◌≤◌, ◌+◌, ◌-◌, length}
use Rattle.lit_base.specs.Held.{clauses_of}
use Rattle.lit_base.specs.Rounds.{rounds, propagate}
use Rattle.round_prop.specs.Pairs.{pairs_of}
use Rattle.round_prop.specs.Readied.{oldest, IsReady, HaveSameRows}
use Rattle.round_prop.proofs.round.run_rounds.Given as goal

-- the rounds to come end where propagation ends
abbrev pub invariant-loop : goal.invariant-loop
invariant-loop g l = record {
  saved : l.trail.saved ≡ l.fn.trail.saved;
  rest : rounds (l.most - l.counter) (clauses_of l.pool.held) l.trail.entries ≡ propagate (length l.fn.trail.saved) (clauses_of l.pool.held) l.fn.trail.entries;
  ready : IsReady (length l.fn.trail.saved) (clauses_of l.pool.held) l.trail.entries (oldest l.from l.trail.entries) l.table;
  seen : l.from ≤ length l.trail.entries;
  same : HaveSameRows l.fn.table l.table;
  steps : l.fn.steps ≤ l.steps;
  few : l.steps + pairs_of (clauses_of l.pool.held) (oldest l.seen l.fn.trail.entries) ≤ l.fn.steps + pairs_of (clauses_of l.pool.held) (oldest l.from l.trail.entries);
}
