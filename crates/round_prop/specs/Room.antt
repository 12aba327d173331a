-- Tables that differ in nothing but their room.
use Rattle.std.specs.Prelude.{◌≡◌}
use Rattle.round_prop.specs.declared.table.Table.{Table}

-- the tables have the same rows, links and notes
pub record HaveSameItems (before after : Table) : Type 0 where
  pub rows : after.rows.items ≡ before.rows.items
  pub heads : after.links.heads.items ≡ before.links.heads.items
  pub nodes : after.links.nodes.items ≡ before.links.nodes.items
  pub notes : after.noted.notes.items ≡ before.noted.notes.items
  pub flags : after.noted.flags.items ≡ before.noted.flags.items
