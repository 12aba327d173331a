-- How long the next period of a core is.
use Rattle.std.specs.Prelude.{ℕ, ◌+◌, ◌-◌, ◌*◌, ◌/◌, ◌==◌, if◌then◌else◌}

-- the base, and on top the share of it that the volume lacks of the largest, rounded down; the base alone where that is 0
abbrev pub next_period : ℕ → ℕ → ℕ → ℕ
next_period base volume largest = if largest == 0 then base else base + base * (largest - volume) / largest
