use Rattle.std.proofs.Common.{◌≡◌, drop}
use Rattle.round_prop.specs.Noting.{flags_without}
use Rattle.round_prop.proofs.noted.lower_all.Given as goal

-- the notes to come lower what is left
abbrev pub invariant-loop-note : goal.invariant-loop-note
invariant-loop-note l = flags_without (drop l.note-index l.notes) l.flags ≡ flags_without l.notes l.fn.flags
