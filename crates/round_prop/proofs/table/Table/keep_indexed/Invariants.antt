use Rattle.std.proofs.Common.{◌≡◌}
use Rattle.round_prop.specs.Readied.{IsRoomKept}
use Rattle.round_prop.specs.Removal.{AreMoved}
use Rattle.round_prop.proofs.table.Table.keep_indexed.Given as goal

-- the rows so far are done
abbrev pub invariant-loop-row : goal.invariant-loop-row
invariant-loop-row l = record {
  moved : AreMoved l.names l.fn.self l.self l.row l.kept;
  notes : l.self.noted.notes ≡ l.fn.self.noted.notes;
  heads : l.self.links.heads ≡ l.fn.self.links.heads;
  room : IsRoomKept l.fn.self l.self;
}
