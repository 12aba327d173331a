use Rattle.std.proofs.Common.{◌≡◌, ◌≤◌, ◌-◌, drop, length}
use Rattle.round_prop.specs.Readied.{AreSized, IsRoomKept}
use Rattle.round_prop.specs.Removal.{kept_rows, kept_items, kept_pairs}
use Rattle.round_prop.proofs.table.Table.keep_rows.Given as goal

-- without the rows of the names that are left, what is there is what is to be left
abbrev pub invariant-loop-done : goal.invariant-loop-done
invariant-loop-done l = record {
  sized : AreSized l.self;
  within : l.done ≤ length l.names;
  rows : kept_rows (drop l.done l.names) l.self.rows.items ≡ kept_rows l.names l.fn.self.rows.items;
  flags : kept_items (drop l.done l.names) l.self.rows.items l.self.noted.flags.items ≡ kept_items l.names l.fn.self.rows.items l.fn.self.noted.flags.items;
  nodes : kept_pairs (drop l.done l.names) l.self.rows.items l.self.links.nodes.items ≡ kept_pairs l.names l.fn.self.rows.items l.fn.self.links.nodes.items;
  notes : l.self.noted.notes ≡ l.fn.self.noted.notes;
  room : IsRoomKept l.fn.self l.self;
}

abbrev pub decreases-loop-done : goal.decreases-loop-done
decreases-loop-done l = length l.names - l.done
