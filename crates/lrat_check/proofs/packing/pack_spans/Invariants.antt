use Rattle.std.proofs.Common.{◌≡◌, ℕ, ◌<◌, ◌≤◌, length}
use Rattle.lrat_check.specs.Table.{part_at}
use Rattle.lrat_check.specs.Packing.{IsMoved}
use Rattle.lrat_check.proofs.packing.pack_spans.Given as goal

-- the parts before this place are moved, and those from it on are as they were
abbrev pub invariant-loop-place : goal.invariant-loop-place
invariant-loop-place l = record {
  done : (n : ℕ) → n < l.place → IsMoved l.literals l.packed.items (part_at l.fn.spans.items n) (part_at l.spans.items n);
  left : (n : ℕ) → l.place ≤ n → part_at l.spans.items n ≡ part_at l.fn.spans.items n;
  size : length l.spans.items ≡ length l.fn.spans.items;
}
