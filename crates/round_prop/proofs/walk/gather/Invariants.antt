use Rattle.std.proofs.Common.{◌≤◌, ◌+◌}
use Rattle.lit_base.specs.Held.{clauses_of}
use Rattle.lit_base.specs.declared.name.Name.{Name}
use Rattle.round_prop.specs.Noting.{IsNoted}
use Rattle.round_prop.specs.Pairs.{pairs_of}
use Rattle.round_prop.specs.Readied.{row_names, oldest, AreNamedApart, HaveSameRows, IsTable}
use Rattle.round_prop.proofs.walk.gather.Given as goal

-- the lists of the entries so far were walked
abbrev pub invariant-loop-place : goal.invariant-loop-place
invariant-loop-place g l = record {
  table : IsTable (clauses_of l.pool.held) l.trail.entries (oldest l.place l.trail.entries) l.table;
  same : HaveSameRows l.fn.table l.table;
  noted : (name : Name) → IsNoted l.fn.table.noted.notes.items name → IsNoted l.table.noted.notes.items name;
  steps : l.fn.steps ≤ l.steps;
  few : AreNamedApart (row_names l.fn.table.rows.items) → l.steps + pairs_of (clauses_of l.pool.held) (oldest l.seen l.trail.entries) ≤ l.fn.steps + pairs_of (clauses_of l.pool.held) (oldest l.place l.trail.entries);
}
