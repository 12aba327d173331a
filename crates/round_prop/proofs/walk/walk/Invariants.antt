use Rattle.std.proofs.Common.{◌≤◌, ◌-◌, ℕ, List, length}
use Rattle.lit_base.specs.Held.{clauses_of}
use Rattle.lit_base.specs.declared.trail.Entry.{Entry}
use Rattle.round_prop.specs.Chains.{no_node}
use Rattle.round_prop.specs.Linked.{IsStep}
use Rattle.round_prop.specs.Noting.{AreFlagged, HasMoreNotes}
use Rattle.round_prop.specs.Readied.{row_names, HaveSameRows}
use Rattle.round_prop.specs.Walking.{IsWalk, IsInWalk}
use Rattle.round_prop.proofs.walk.walk.Given as goal

-- no more nodes are left than rounds of the loop
abbrev pub invariant-loop : goal.invariant-loop
invariant-loop g l = record {
  on : IsInWalk (clauses_of l.pool.held) l.trail.entries l.own l.last l.table;
  walk : (done next : List Entry) (most : ℕ) → IsStep l.trail.entries done next l.own →
      AreFlagged (row_names l.fn.table.rows.items) l.fn.table.noted.flags.items l.fn.table.noted.notes.items →
      IsWalk (clauses_of l.pool.held) l.trail.entries done next l.own (length l.fn.table.links.nodes.items) l.fn.steps most no_node l.fn.table →
      IsWalk (clauses_of l.pool.held) l.trail.entries done next l.own (length l.fn.table.links.nodes.items - l.counter) l.steps most l.last l.table;
  notes : HasMoreNotes l.trail.entries (clauses_of l.pool.held) (row_names l.fn.table.rows.items) l.fn.table.noted l.table.noted;
  same : HaveSameRows l.fn.table l.table;
  steps : l.fn.steps ≤ l.steps;
}
