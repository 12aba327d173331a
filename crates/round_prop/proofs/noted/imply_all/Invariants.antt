use Rattle.std.proofs.Common.{◌≡◌, drop}
use Rattle.round_prop.specs.Noting.{with_noted}
use Rattle.round_prop.proofs.noted.imply_all.Given as goal

-- implying the notes to come ends where implying all of them does
abbrev pub invariant-loop-note : goal.invariant-loop-note
invariant-loop-note l = record {
  saved : l.trail.saved ≡ l.fn.trail.saved;
  rest : with_noted (drop l.note-index l.notes) l.trail.entries ≡ with_noted l.notes l.fn.trail.entries;
}
