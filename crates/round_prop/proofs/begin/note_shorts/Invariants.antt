use Rattle.std.proofs.Common.{◌≡◌, ◌++◌, take, vec_capacity}
use Rattle.std.specs.Prelude.{map}
use Rattle.round_prop.specs.Shorts.{note_of_short}
use Rattle.round_prop.proofs.begin.note_shorts.Given as goal

-- the short clauses so far are noted
abbrev pub invariant-loop-short : goal.invariant-loop-short
invariant-loop-short l = record {
  notes : l.noted.notes.items ≡ l.fn.noted.notes.items ++ map note_of_short (take l.short-index l.shorts);
  flags : l.noted.flags ≡ l.fn.noted.flags;
  room : vec_capacity l.noted.notes ≡ vec_capacity l.fn.noted.notes;
}
