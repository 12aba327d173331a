-- What holds of the variable that is picked.
use Rattle.std.specs.Prelude.{ℕ, ◌≡◌, ◌≤◌, true, List, length, Some, None}
use Rattle.lit_base.specs.Trail.{is_free, is_full}
use Rattle.lit_base.specs.declared.trail.Entry.{Entry}
use Rattle.var_order.specs.Order.{activity_at, pick_of}

-- the variable is one of the order's, and is free on the trail
pub record IsChoice (activities : List ℕ) (trail : List Entry) (v : ℕ) : Type 0 where
  pub low : 1 ≤ v
  pub high : v ≤ length activities
  pub free : is_free trail v ≡ true

-- a choice to which no other is preferred
pub record IsBestChoice (activities : List ℕ) (trail : List Entry) (v : ℕ) : Type 0 where
  pub choice : IsChoice activities trail v
  -- none has a greater activity
  pub greatest : (w : ℕ) → IsChoice activities trail w → activity_at activities w ≤ activity_at activities v
  -- none of a lower number has the same activity
  pub lowest : (w : ℕ) → IsChoice activities trail w → activity_at activities w ≡ activity_at activities v → v ≤ w

-- the variable that is picked is the best choice
abbrev pub PickIsBest : Type 0
PickIsBest = (activities : List ℕ) (trail : List Entry) (v : ℕ) → pick_of activities trail ≡ Some v → IsBestChoice activities trail v

-- the best choice is the variable that is picked
abbrev pub BestIsPick : Type 0
BestIsPick = (activities : List ℕ) (trail : List Entry) (v : ℕ) → IsBestChoice activities trail v → pick_of activities trail ≡ Some v

-- where none is picked, the trail is full
abbrev pub NoneWhereFull : Type 0
NoneWhereFull = (activities : List ℕ) (trail : List Entry) → pick_of activities trail ≡ None → is_full (length activities) trail ≡ true
