-- How the cores stand in groups, one for each worker, and how lists agree place by place.
use Rattle.std.specs.Prelude.{ℕ, ◌≡◌, ◌+◌, ◌%◌, List, [], ◌∷◌, ◌++◌, length, map, set, Some, slice_get, All, Vec}
use Rattle.crossbeam_utils.specs.Padded.{padded_value}
use Rattle.crossbeam_utils.specs.declared.cache_padded.CachePadded.{CachePadded}

-- the items of two lists stand in this relation, place by place
pub record AreEach {X Y : Type 0} (R : X → Y → Type 0) (xs : List X) (ys : List Y) : Type 0 where
  pub same_length : length ys ≡ length xs
  pub each : (i : ℕ) (x : X) (y : Y) → slice_get xs i ≡ Some x → slice_get ys i ≡ Some y → R x y

-- the items that a padded group holds
abbrev pub list_of : {X A : Type 0} → CachePadded (Vec X A) → List X
list_of {X} {A} group = (padded_value group).items

-- those that each group holds
abbrev pub lists_of : {X A : Type 0} → List (CachePadded (Vec X A)) → List (List X)
lists_of groups = map list_of groups

-- the groups hold these items and no others, dealt in turn from this place on: an item is the last one of the group at its
-- place modulo the number of groups, and the items behind it are dealt to what it leaves
abbrev pub AreDealt : {X : Type 0} → ℕ → List X → List (List X) → Type 0
AreDealt {X} place [] groups = All (λ (group : List X). group ≡ []) groups
AreDealt {X} place (x ∷ later) groups =
    (rest : List X) × (slice_get groups (place % length groups) ≡ Some (rest ++ x ∷ []))
    × AreDealt (place + 1) later (set groups (place % length groups) rest)
