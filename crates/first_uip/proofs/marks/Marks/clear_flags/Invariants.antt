use Rattle.std.proofs.Common.{◌≡◌, vec_len}
use Rattle.first_uip.proofs.Listed.{AreLeft}
use Rattle.first_uip.proofs.marks.Marks.clear_flags.Given as goal

-- the flags that are still set are those of the variables to come
abbrev pub invariant-loop-index : goal.invariant-loop-index
invariant-loop-index l = record {
  left : AreLeft l.index l.self.marked.items l.self.flags.items;
  len : vec_len l.self.flags ≡ vec_len l.initial.self.flags;
  marked : l.self.marked ≡ l.initial.self.marked;
}
