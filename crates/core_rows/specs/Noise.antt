-- The noise of the start activities: the mixing function of SplitMix64 (Steele, Lea and Flood 2014).
use Rattle.std.specs.Prelude.{ℕ, ◌+◌, ◌-◌, ◌*◌, ◌/◌, ◌%◌, ◌^◌, ◌==◌, bit_xor, if◌then◌else◌}

-- z with z shifted right by so many bits laid over it
abbrev pub folded : ℕ → ℕ → ℕ
folded z bits = bit_xor z (z / 2 ^ bits)

-- where the sequence of a seed stands at variable v of core i
abbrev pub state_at : ℕ → ℕ → ℕ → ℕ
state_at seed i v = (seed + 0x9e3779b97f4a7c15 * (1 + i * 2 ^ 32 + v)) % 2 ^ 64

-- the noise of variable v of core i
abbrev pub noise : ℕ → ℕ → ℕ → ℕ
noise seed i v =
    let once = folded (state_at seed i v) 30 * 0xbf58476d1ce4e5b9 % 2 ^ 64 in
    let twice = folded once 27 * 0x94d049bb133111eb % 2 ^ 64 in
    folded twice 31

-- the start activity of so many bits: the high bits of the noise
abbrev pub start_of : ℕ → ℕ → ℕ → ℕ → ℕ
start_of bits seed i v = if bits == 0 then 0 else noise seed i v / 2 ^ (64 - bits)
