use Rattle.std.proofs.Common.{◌≡◌, ℕ, List, ◌++◌, take, vec_len}
use Rattle.std.specs.Prelude.{map}
use Rattle.first_uip.specs.Marks.{AreFlagsOf, IsCounted, GoesOn}
use Rattle.first_uip.specs.Places.{before}
use Rattle.first_uip.proofs.marks.Marks.mark_all.Given as goal

-- the variables of the literals so far are marked
abbrev pub invariant-loop-lit : goal.invariant-loop-lit
invariant-loop-lit l = record {
  room : vec_len l.self.flags ≡ vec_len l.initial.self.flags;
  marks : (marked : List ℕ) → AreFlagsOf marked l.initial.self.flags.items → AreFlagsOf (map (λ k. k.variable) (take l.lit-index l.lits) ++ marked) l.self.flags.items;
  kept : GoesOn l.initial.self.marked.items l.self.marked.items;
  counted : IsCounted l.level (before l.place l.trail.entries) l.self;
}
