-- The high bits of a word.
use Rattle.std.proofs.Common.{arith, ◌≡◌, ℕ, ◌<◌, ◌≤◌, ◌+◌, ◌-◌, ◌/◌, ◌^◌}
use Rattle.std.proofs.lemmas.Nat.{shr_below}

-- so many high bits of a word of 64 bits are a number of so many bits
pub high_below : (word bits : ℕ) → word < 2 ^ 64 → bits ≤ 64 → word / 2 ^ (64 - bits) < 2 ^ bits
high_below word bits fits few =
    let all : bits + (64 - bits) ≡ 64 = omega arith in
    shr_below word bits (64 - bits) (rw all fits)
