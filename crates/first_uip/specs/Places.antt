-- The entries of a trail before a place, at places, and of a variable.
use Rattle.std.specs.Prelude.{◌≡◌, ℕ, ◌-◌, ◌≤◌, ◌<◌, ◌==◌, List, Option, Some, All, map, find, reverse, length, drop, slice_get}
use Rattle.lit_base.specs.declared.trail.Entry.{Entry}

-- the entries at the places below this one, which are counted from the oldest entry
abbrev pub before : ℕ → List Entry → List Entry
before place trail = drop (length trail - place) trail

-- the newest entry of a variable, if there is one
abbrev pub entry_of : List Entry → ℕ → Option Entry
entry_of trail v = find (λ e. e.lit.variable == v) trail

-- the entries stand at the places, of which the first is that of the last entry
abbrev pub AreAt : List Entry → List ℕ → List Entry → Type 0
AreAt trail places entries = map (slice_get (reverse trail)) (reverse places) ≡ map Some entries

-- the places are those of the entries, which stand before a place
pub record ArePlacesOf (trail : List Entry) (place : ℕ) (entries : List Entry) (places : List ℕ) : Type 0 where
  pub within : All (λ at. at < length trail) places
  pub few : length places ≤ place
  pub at : AreAt trail places entries
