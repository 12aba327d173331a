use Rattle.std.proofs.Common.{◌≡◌, ◌+◌, length, vec_len, vec_capacity}
use Rattle.std.specs.Prelude.{List}
use Rattle.lit_base.specs.Held.{clauses_of}
use Rattle.lit_base.specs.declared.trail.Entry.{Entry}
use Rattle.round_prop.specs.Attached.{AreAttachedIn, AreRoomy}
use Rattle.round_prop.specs.Spanned.{AreSpanned}
use Rattle.round_prop.specs.FreshClauses.{fresh_names}
use Rattle.round_prop.proofs.begin.begin_fresh.Given as goal

-- the clauses that were taken out are rows or short ones, and a step was made for each
abbrev pub invariant-loop-next : goal.invariant-loop-next
invariant-loop-next g l = record {
  attached : (done : List Entry) → AreAttachedIn (clauses_of l.pool.held) l.trail.entries done l.fn.table l.fn.shorts.items (fresh_names l.fn.fresh.items) →
      AreAttachedIn (clauses_of l.pool.held) l.trail.entries done l.table l.shorts.items (fresh_names l.fresh.items);
  roomy : AreRoomy (length l.trail.saved) l.table (vec_len l.shorts) (vec_capacity l.shorts) (vec_len l.fresh);
  spanned : AreSpanned l.pool.added l.fn.table.rows.items → AreSpanned l.pool.added l.table.rows.items;
  steps : l.steps + vec_len l.fresh ≡ l.fn.steps + vec_len l.fn.fresh;
}

abbrev pub decreases-loop-next : goal.decreases-loop-next
decreases-loop-next g l = vec_len l.fresh
