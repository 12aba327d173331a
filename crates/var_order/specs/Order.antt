-- Which variable a core decides, by activity (Moskewicz, Madigan, Zhao, Zhang and Malik 2001).
use Rattle.std.specs.Prelude.{ℕ, zero, suc, ◌+◌, ◌-◌, ◌/◌, ◌≤◌, ◌≡◌, nat_lt, Bool, true, false, ◌&&◌, List, length, map, replicate, Option, Some, None, if◌then◌else◌, slice_index_or, slice_set}
use Rattle.lit_base.specs.Trail.{is_free}
use Rattle.lit_base.specs.declared.trail.Entry.{Entry}

-- the activity of each variable, and whether it is in the order, both by variable from 1 on
pub record OrderState : Type 0 where
  pub activities : List ℕ
  pub present : List Bool

-- the order of variables with these activities, all of them in it
abbrev pub first_order : List ℕ → OrderState
first_order activities = record { activities = activities; present = replicate (length activities) true }

-- the activity of a variable among these, and 0 past their end
abbrev pub activity_at : List ℕ → ℕ → ℕ
activity_at activities v = slice_index_or activities (v - 1) 0

-- the activity of a variable
abbrev pub activity_of : OrderState → ℕ → ℕ
activity_of s v = activity_at s.activities v

-- whether a variable is in the order
abbrev pub is_present : OrderState → ℕ → Bool
is_present s v = slice_index_or s.present (v - 1) false

-- each variable that is free on the trail is in the order
abbrev pub HasAllFree : OrderState → List Entry → Type 0
HasAllFree s trail = (v : ℕ) → 1 ≤ v → v ≤ length s.activities → is_free trail v ≡ true → is_present s v ≡ true

-- the order with one activity raised by this weight
abbrev pub bumped : ℕ → ℕ → OrderState → OrderState
bumped v weight s = record s { activities = slice_set s.activities (v - 1) (activity_of s v + weight) }

-- activities, each halved and rounded down
abbrev pub halves : List ℕ → List ℕ
halves activities = map (λ a. a / 2) activities

-- the order with all activities halved
abbrev pub halved : OrderState → OrderState
halved s = record s { activities = halves s.activities }

-- the order with this variable in it
abbrev pub put_back : ℕ → OrderState → OrderState
put_back v s = record s { present = slice_set s.present (v - 1) true }

-- whether a variable has a greater activity than the best so far, or is the first
abbrev pub beats : List ℕ → Option ℕ → ℕ → Bool
beats activities None v = true
beats activities (Some best) v = nat_lt (activity_at activities best) (activity_at activities v)

-- of the variables from 1 to n the best: a variable takes the place of the best so far where it is free and beats it
abbrev pub best_of : ℕ → List ℕ → List Entry → Option ℕ
best_of zero activities trail = None
best_of (suc n) activities trail =
    let best = best_of n activities trail in if is_free trail (suc n) && beats activities best (suc n) then Some (suc n) else best

-- the free variable of the greatest activity, and among these of the lowest number; None where no variable is free
abbrev pub pick_of : List ℕ → List Entry → Option ℕ
pick_of activities trail = best_of (length activities) activities trail
