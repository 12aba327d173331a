-- The state of a trail: its entries, and the value that each variable had when it last left it.
use Rattle.std.specs.Prelude.{ℕ, ◌+◌, ◌≤◌, ◌<◌, ◌^◌, ◌==◌, Bool, true, false, List, [], ◌∷◌, length, replicate, Option, Some, None, if◌then◌else◌}
use Rattle.std.specs.List.{AllByRecursion}
use Rattle.lit_base.specs.Literal.{Literal, IsWithin}
use Rattle.lit_base.specs.Trail.{is_true, level_now, with_decision}
use Rattle.lit_base.specs.Backjump.{cut, saved_after}
use Rattle.lit_base.specs.Fits.{HasDistinctVariables, IsLeveled}
use Rattle.lit_base.specs.declared.trail.Entry.{Entry}
use Rattle.lit_base.specs.declared.name.Name.{Name}

-- the entries, the newest first, and what each variable was when it last left the trail, by variable from 1 on
pub record TrailState : Type 0 where
  pub entries : List Entry
  pub saved : List (Option Bool)

-- the empty trail of so many variables, none of which ever had a value
abbrev pub first_trail : ℕ → TrailState
first_trail variables = record { entries = []; saved = replicate variables None }

-- the trail with a decision, which begins a new level
abbrev pub decided : Literal → TrailState → TrailState
decided l t = record t { entries = with_decision l t.entries }

-- the trail with a literal at the present level, and the name of the clause that implied it
abbrev pub implied : Literal → Name → TrailState → TrailState
implied l reason t = record t { entries = record { lit = l; level = level_now t.entries; reason = Some reason } ∷ t.entries }

-- the trail cut to a level, with the values of the variables that left it
abbrev pub jumped : ℕ → TrailState → TrailState
jumped level t = record { entries = cut level t.entries; saved = saved_after level t.entries t.saved }

-- where a variable stands on the trail, if it does: the number of entries that are older than its newest one
abbrev pub place_of : List Entry → ℕ → Option ℕ
place_of [] v = None
place_of (e ∷ older) v = if e.lit.variable == v then Some (length older) else place_of older v

-- a standing, from the place of a literal's variable, if it has one, and whether the literal is true
abbrev pub standing_by : Option ℕ → Bool → ℕ
standing_by None holds = 2 ^ 30
standing_by (Some place) true = place
standing_by (Some place) false = 2 ^ 31 + place

-- where a literal stands: the place of its variable where it is true, 2^30 where its variable is free, and 2^31 more than the place where it is false
abbrev pub standing_of : List Entry → Literal → ℕ
standing_of trail l = standing_by (place_of trail l.variable) (is_true trail l)

-- what always holds of a trail
pub record IsTrail (t : TrailState) : Type 0 where
  -- the number of variables is a number of 32 bits
  pub counted : length t.saved < 2 ^ 32
  -- the entries are over distinct variables, and within the variables
  pub distinct : HasDistinctVariables t.entries
  pub within : AllByRecursion (λ e. IsWithin (length t.saved) e.lit) t.entries
  -- each entry is of a literal, so of a variable up to 1,000,000
  pub literals : AllByRecursion (λ e. IsWithin 1000000 e.lit) t.entries
  -- levels begin at 0, never fall, rise by one exactly at a decision, and are at most the number of entries
  pub leveled : IsLeveled t.entries
  pub levels : AllByRecursion (λ e. e.level ≤ length t.entries) t.entries
  -- there are at most as many entries as variables, and as literals have variables
  pub fits : length t.entries ≤ length t.saved
  pub few : length t.entries ≤ 1000000
