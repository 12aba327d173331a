use Rattle.std.proofs.Common.{◌≡◌, ◌≤◌, ℕ, ◌*◌, ◌<◌}
use Rattle.std.specs.Prelude.{◌^◌}
use Rattle.tempo.specs.Tempo.{luby}
use Rattle.tempo.proofs.sequence.luby.Given as goal

-- `half` is a power of two, the place is below twice as much, and the value there is the one that was asked for
abbrev pub invariant-loop-place : goal.invariant-loop-place
invariant-loop-place l = record {
  power : (k : ℕ) × (l.half ≡ 2 ^ k);
  few : l.half ≤ 2147483648;
  some : 1 ≤ l.place;
  below : l.place < 2 * l.half;
  same : luby l.place ≡ luby l.t;
}

abbrev pub decreases-loop-place : goal.decreases-loop-place
decreases-loop-place l = l.half
