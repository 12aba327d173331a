-- What holds of the sequence: the two equations that define it, and its first values. And when restarts come by it.
use Rattle.std.specs.Prelude.{ℕ, zero, suc, ◌≡◌, ◌+◌, ◌-◌, ◌*◌, ◌^◌, ◌<◌, ◌≤◌, true, false, [], ◌∷◌, map}
use Rattle.tempo.specs.Tempo.{TempoState, luby, first_tempo, is_due, after_conflict}

-- at 2 ^ k - 1 the sequence is 2 ^ (k - 1)
abbrev pub PeaksAreHalves : Type 0
PeaksAreHalves = (k t : ℕ) → 1 ≤ k → t ≡ 2 ^ k - 1 → luby t ≡ 2 ^ (k - 1)

-- from 2 ^ (k - 1) on, and before 2 ^ k - 1, the sequence is what it was from the first place on
abbrev pub RestRepeats : Type 0
RestRepeats = (k t : ℕ) → 2 ^ (k - 1) ≤ t → t < 2 ^ k - 1 → luby t ≡ luby (t - 2 ^ (k - 1) + 1)

-- the first fifteen values
abbrev pub FirstValues : Type 0
FirstValues = map luby (1 ∷ 2 ∷ 3 ∷ 4 ∷ 5 ∷ 6 ∷ 7 ∷ 8 ∷ 9 ∷ 10 ∷ 11 ∷ 12 ∷ 13 ∷ 14 ∷ 15 ∷ [])
    ≡ 1 ∷ 1 ∷ 2 ∷ 1 ∷ 1 ∷ 2 ∷ 4 ∷ 1 ∷ 1 ∷ 2 ∷ 1 ∷ 1 ∷ 2 ∷ 4 ∷ 8 ∷ []

-- right after a restart, at this place of the sequence
abbrev pub restarted : ℕ → ℕ → TempoState
restarted unit t = record { unit = unit; t = t; count = 0 }

-- after so many conflicts
abbrev pub after_conflicts : ℕ → TempoState → TempoState
after_conflicts zero s = s
after_conflicts (suc n) s = after_conflict (after_conflicts n s)

-- the beginning is as right after a restart, at the first place
abbrev pub BeginsAtFirst : Type 0
BeginsAtFirst = (unit : ℕ) → first_tempo unit ≡ restarted unit 1

-- no conflict after a restart makes the next one due before there were as many as the unit times the value at the place
abbrev pub NoneBefore : Type 0
NoneBefore = (unit t n : ℕ) → n + 1 < luby t * unit → is_due (after_conflicts n (restarted unit t)) ≡ false

-- the last of so many conflicts does
abbrev pub LastIsDue : Type 0
LastIsDue = (unit t n : ℕ) → n + 1 ≡ luby t * unit → is_due (after_conflicts n (restarted unit t)) ≡ true

-- and after it the core has restarted, and stands at the next place
abbrev pub NextPlace : Type 0
NextPlace = (unit t : ℕ) → 1 ≤ unit → 1 ≤ t → after_conflicts (luby t * unit) (restarted unit t) ≡ restarted unit (t + 1)
