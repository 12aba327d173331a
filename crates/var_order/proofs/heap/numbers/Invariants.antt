use Rattle.std.proofs.Common.{◌≡◌, ℕ, ◌<◌, length, slice_index}
use Rattle.var_order.proofs.heap.numbers.Given as goal

-- the numbers so far are at their places
abbrev pub invariant-loop-i : goal.invariant-loop-i
invariant-loop-i l = record {
  len : length l.numbers.items ≡ l.count;
  each : (k : ℕ) → k < l.i → slice_index l.numbers.items k ≡ k;
}
