-- The share limit of a core.
use Rattle.std.specs.Prelude.{ℕ, ◌==◌, ℤ, pos, ◌+ℤ◌, if◌then◌else◌}
use Rattle.std.specs.Int.{int_min, int_max}

-- 0 where the limit asked for is 0, and else that limit plus the row's share, kept from 1 to 64
abbrev pub share_limit : ℤ → ℕ → ℤ
share_limit share e = if e == 0 then pos 0 else int_min (int_max (pos e +ℤ share) (pos 1)) (pos 64)
