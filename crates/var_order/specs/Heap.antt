-- A binary heap of variables by activity, in flat arrays. Here a variable is counted from 0.
use Rattle.std.specs.Prelude.{ℕ, ◌-◌, ◌/◌, ◌<◌, ◌≤◌, ◌≡◌, ◌≢◌, nat_lt, Bool, List, length, map, slice_index}
use Rattle.var_order.specs.Order.{OrderState}
use Rattle.var_order.specs.declared.heap.Heap.{Heap}

-- the place above a place
abbrev pub parent_of : ℕ → ℕ
parent_of place = (place - 1) / 2

-- the variable at a place
abbrev pub var_at : Heap → ℕ → ℕ
var_at h place = slice_index h.vars.items place

-- the place of a variable
abbrev pub place_of : Heap → ℕ → ℕ
place_of h v = slice_index h.places.items v

-- whether each variable is in the heap: whether its place is before the heap's end
abbrev pub members_of : Heap → List Bool
members_of h = map (λ place. nat_lt place h.size) h.places.items

-- so many variables have a place each, also those that are not in the heap, which stand behind its end
pub record ArePlaced (count : ℕ) (h : Heap) : Type 0 where
  pub vars : length h.vars.items ≡ count
  pub places : length h.places.items ≡ count
  pub size : h.size ≤ count
  pub few : count ≤ 1000000
  pub var_within : (place : ℕ) → place < count → var_at h place < count
  pub place_back : (place : ℕ) → place < count → place_of h (var_at h place) ≡ place
  pub place_within : (v : ℕ) → v < count → place_of h v < count
  pub var_back : (v : ℕ) → v < count → var_at h (place_of h v) ≡ v

-- the order of the variables with these activities, of which those in the heap are in it
abbrev pub order_by : List ℕ → Heap → OrderState
order_by activities h = record { activities = activities; present = members_of h }

-- the variables at two places have been swapped, and nothing else is changed
pub record HaveSwapped (old new : Heap) (i j : ℕ) : Type 0 where
  pub size : new.size ≡ old.size
  pub first : var_at new i ≡ var_at old j
  pub second : var_at new j ≡ var_at old i
  pub others : (place : ℕ) → place ≢ i → place ≢ j → var_at new place ≡ var_at old place

-- a variable is no better than another: its activity isn't greater, and where it is the same, its number isn't lower
pub record IsBelow (activities : List ℕ) (v w : ℕ) : Type 0 where
  pub activity : slice_index activities v ≤ slice_index activities w
  pub number : slice_index activities v ≡ slice_index activities w → w ≤ v

-- the variable at a place is no better than the one at the place above it
abbrev pub IsInOrder : List ℕ → Heap → ℕ → Type 0
IsInOrder activities h place = IsBelow activities (var_at h place) (var_at h (parent_of place))

-- each variable is in order whose place above is this one or a later one
pub record IsHeapFrom (from : ℕ) (activities : List ℕ) (h : Heap) : Type 0 where
  pub order : (place : ℕ) → 0 < place → place < h.size → from ≤ parent_of place → IsInOrder activities h place

-- each variable is in order
abbrev pub IsHeap : List ℕ → Heap → Type 0
IsHeap activities h = IsHeapFrom 0 activities h

-- each variable is in order, but for the one at a place, which may have to rise
pub record IsHeapButUp (at : ℕ) (activities : List ℕ) (h : Heap) : Type 0 where
  pub order : (place : ℕ) → 0 < place → place < h.size → place ≢ at → IsInOrder activities h place
  -- those below it are no better than the one above it
  pub around : (place : ℕ) → 0 < place → place < h.size → parent_of place ≡ at → 0 < at →
      IsBelow activities (var_at h place) (var_at h (parent_of at))

-- each variable whose place above is this one or a later one is in order, but for those below a place, whose variable may have to sink
pub record IsHeapButDown (from at : ℕ) (activities : List ℕ) (h : Heap) : Type 0 where
  pub order : (place : ℕ) → 0 < place → place < h.size → from ≤ parent_of place → parent_of place ≢ at → IsInOrder activities h place
  -- those below it are no better than the one above it
  pub around : (place : ℕ) → 0 < place → place < h.size → parent_of place ≡ at → 0 < at → from ≤ parent_of at →
      IsBelow activities (var_at h place) (var_at h (parent_of at))

-- the variables right below a place are no better than the one at the place
abbrev pub AreNoBetter : List ℕ → Heap → ℕ → Type 0
AreNoBetter activities h at = (place : ℕ) → 0 < place → place < h.size → parent_of place ≡ at → IsInOrder activities h place

-- of the places right below a place, one whose variable is better than the one at the place, and no worse than any of them
pub record IsBetterChild (activities : List ℕ) (h : Heap) (at child : ℕ) : Type 0 where
  pub low : 0 < child
  pub high : child < h.size
  pub below : parent_of child ≡ at
  pub better : IsBelow activities (var_at h at) (var_at h child)
  pub best : (place : ℕ) → 0 < place → place < h.size → parent_of place ≡ at → IsBelow activities (var_at h place) (var_at h child)

-- what always holds of an order: each variable has its place, and those in the heap are in order
pub record IsIndexed (activities : List ℕ) (h : Heap) : Type 0 where
  pub placed : ArePlaced (length activities) h
  pub heap : IsHeap activities h
