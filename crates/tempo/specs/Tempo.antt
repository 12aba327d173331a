-- When a core restarts: the sequence of Luby, Sinclair and Zuckerman (1993), and the count of conflicts that it paces.
use Rattle.std.specs.Prelude.{ℕ, zero, suc, ◌+◌, ◌-◌, ◌*◌, ◌^◌, ◌≡◌, ◌<◌, ◌≤◌, ◌==◌, nat_lt, Bool, if◌then◌else◌}

-- a place below 2 ^ k as it is, and from 2 ^ k on counted from 1 again
abbrev pub place_in_half : ℕ → ℕ → ℕ
place_in_half k t = if nat_lt t (2 ^ k) then t else t - 2 ^ k + 1

-- the sequence at a place below 2 ^ k: half of 2 ^ k at the last place, and else as at the place in the half
abbrev pub luby_within : ℕ → ℕ → ℕ
luby_within zero t = 0
luby_within (suc k) t = if t + 1 == 2 ^ suc k then 2 ^ k else luby_within k (place_in_half k t)

-- the sequence at each place from 1 on, since t is below 2 ^ t
abbrev pub luby : ℕ → ℕ
luby t = luby_within t t

-- the unit that the sequence is multiplied by, the place in the sequence, and the conflicts since the last restart
pub record TempoState : Type 0 where
  pub unit : ℕ
  pub t : ℕ
  pub count : ℕ

-- the beginning, at the first place with no conflict
abbrev pub first_tempo : ℕ → TempoState
first_tempo unit = record { unit = unit; t = 1; count = 0 }

-- whether the next conflict makes a restart due
abbrev pub is_due : TempoState → Bool
is_due s = s.count + 1 == luby s.t * s.unit

-- a conflict is counted; where it makes a restart due, the count begins anew at the next place
abbrev pub after_conflict : TempoState → TempoState
after_conflict s = if is_due s then record s { t = s.t + 1; count = 0 } else record s { count = s.count + 1 }

-- what always holds: the limit is the value at the place times the unit, and the count is below it
pub record IsPaced (s : TempoState) (limit : ℕ) : Type 0 where
  pub some_unit : 1 ≤ s.unit
  pub some_place : 1 ≤ s.t
  pub limited : limit ≡ luby s.t * s.unit
  pub below : s.count < limit
