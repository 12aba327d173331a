-- How much longer a period is made.
use Rattle.std.proofs.Common.{◌≡◌, ℕ, ◌+◌, ◌-◌, ◌*◌, ◌/◌, ◌<◌, ◌≤◌, ◌↔◌, arith}
use Rattle.std.proofs.Math.Nat.{div-le_of_le-mul, le-div_iff_mul-le, mul-div_left, mul-le-mul_left, sub-le}
use Rattle.period_rule.specs.Period.{next_period}

-- at most by as much as it was
pub at_most_doubles : (a v m : ℕ) → v ≤ m → next_period a v m ≤ 2 * a
at_most_doubles a v m h =
    let part : a * (m - v) ≤ a * m = mul-le-mul_left a (sub-le m v) in
    let more : a * (m - v) / m ≤ a = div-le_of_le-mul m (omega (arith, part)) in
    grind (arith, more)

-- by as much as it was where nothing is held
pub empty_doubles : (a m : ℕ) → 0 < m → next_period a 0 m ≡ 2 * a
empty_doubles a m h =
    let more : a * m / m ≡ a = mul-div_left a h in
    grind (arith, more)

-- a number is at most what is added exactly where its product is small enough
pub greatest : (a v m n : ℕ) → 0 < m → (a + n ≤ next_period a v m) ↔ (n * m ≤ a * (m - v))
greatest a v m n some =
    let quotient = le-div_iff_mul-le {k = m} {x = n} {y = a * (m - v)} some in
    (λ within. quotient.0 (grind (arith, within)), λ small. let below = quotient.1 small in grind (arith, below))
