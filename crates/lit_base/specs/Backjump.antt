-- Backjumps: a trail cut to a level, and the value that each variable last had
-- (phase saving: Pipatsrisawat and Darwiche 2007).
use Rattle.std.specs.Prelude.{ℕ, ◌-◌, nat_le, Bool, List, [], ◌∷◌, Option, Some, None, if◌then◌else◌, slice_set, slice_index_or}
use Rattle.lit_base.specs.Trail.{sign_of}
use Rattle.lit_base.specs.declared.trail.Entry.{Entry}

-- the trail cut to a level: the newest entries leave, down to the first of this level or of a lower one
abbrev pub cut : ℕ → List Entry → List Entry
cut level [] = []
cut level (e ∷ older) = if nat_le e.level level then e ∷ older else cut level older

-- the saved values, by variable from 1 on, with that of an entry that leaves the trail
abbrev pub with_saved : Entry → List (Option Bool) → List (Option Bool)
with_saved e saved = slice_set saved (e.lit.variable - 1) (Some e.lit.positive)

-- the saved values after the trail was cut to a level
abbrev pub saved_after : ℕ → List Entry → List (Option Bool) → List (Option Bool)
saved_after level [] saved = saved
saved_after level (e ∷ older) saved = if nat_le e.level level then saved else saved_after level older (with_saved e saved)

-- the one where it is there, else the other
abbrev pub one_or_other : Option Bool → Option Bool → Option Bool
one_or_other None other = other
one_or_other (Some value) other = Some value

-- what a variable is on the trail, or else was when it last stood there
abbrev pub last_value : List Entry → List (Option Bool) → ℕ → Option Bool
last_value trail saved v = one_or_other (sign_of trail v) (slice_index_or saved (v - 1) None)
