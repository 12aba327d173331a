use Rattle.std.proofs.Common.{◌≡◌, drop}
use Rattle.round_prop.specs.Noting.{conflict_in}
use Rattle.round_prop.proofs.noted.conflict_in.Given as goal

-- none of the notes so far is lost
abbrev pub invariant-loop-note : goal.invariant-loop-note
invariant-loop-note l = conflict_in l.trail.entries (drop l.note-index l.notes) ≡ conflict_in l.trail.entries l.notes
