use Rattle.std.proofs.Common.{◌≡◌, ℕ, ◌*◌, ◌/◌, ◌<◌, ◌≤◌, arith, ap, ◌∙◌, sym}
use Rattle.std.specs.Prelude.{◌^◌}
use Rattle.tempo.specs.Tempo.{luby}
use Rattle.tempo.proofs.Halves.{twice-power, luby-top, luby-folded}
use Rattle.tempo.proofs.sequence.luby.Goals as goal
use Rattle.tempo.proofs.sequence.luby.Goals.{then-place-half, else-place-half}

pub loop-place-init : goal.loop-place-init
loop-place-init c = record {
  power = (31, omega arith);
  few = omega arith;
  some = omega arith;
  below = omega arith;
  same = ap luby c.from-place.ensures;
}

-- what a step keeps, from what the `if` gave
kept : (half place next value : ℕ) → (k : ℕ) × (half ≡ 2 * 2 ^ k) → half ≤ 2147483648 → 1 ≤ next → next < half → luby next ≡ value → record {
  power : (k : ℕ) × (half / 2 ≡ 2 ^ k);
  few : half / 2 ≤ 2147483648;
  some : 1 ≤ next;
  below : next < 2 * (half / 2);
  same : luby next ≡ value;
}
kept half place next value (k, twice) few some below same = record {
  power = (k, omega arith);
  few = omega arith;
  some = some;
  below = omega arith;
  same = same;
}

pub loop-place-preserved : goal.loop-place-preserved
loop-place-preserved c =
    let i = c.loop-place.invariant in
    let twice = twice-power c.loop-place.half c.loop-place.place i.power i.some i.below c.loop-place-test.true in
    elim c.if-place-half.branch [
      | then-place-half w ↦ kept c.loop-place.half c.loop-place.place c.if-place-half.place _ twice i.few (omega arith) (omega arith)
          (ap luby w.place-is ∙ sym (luby-folded c.loop-place.half c.loop-place.place i.power (omega arith) (omega arith)) ∙ i.same)
      | else-place-half w ↦ kept c.loop-place.half c.loop-place.place c.if-place-half.place _ twice i.few (omega arith) (omega arith)
          (ap luby w.place-is ∙ i.same)
    ]

pub returns : goal.returns
returns c =
    let i = c.loop-place.invariant in
    sym (luby-top c.loop-place.half c.loop-place.place i.power (omega arith)) ∙ i.same
