use Rattle.std.proofs.Common.{◌≡◌, drop}
use Rattle.round_prop.specs.Noting.{flags_after}
use Rattle.round_prop.proofs.noted.lower_answered.Given as goal

-- the notes to come lower what is left
abbrev pub invariant-loop-note : goal.invariant-loop-note
invariant-loop-note l = flags_after l.trail.entries (drop l.note-index l.notes) l.flags ≡ flags_after l.trail.entries l.notes l.fn.flags
