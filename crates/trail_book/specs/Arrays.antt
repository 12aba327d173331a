-- The arrays of a trail: where each literal stands, and the level of each variable.
use Rattle.std.specs.Prelude.{ℕ, zero, suc, ◌+◌, ◌*◌, ◌≤◌, ◌≡◌, ◌==◌, ◌^◌, ◌-◌, nat_lt, Bool, true, false, List, length, Option, Some, None, if◌then◌else◌, slice_index, slice_index_or}
use Rattle.std.specs.Bool.{beq}
use Rattle.lit_base.specs.Literal.{Literal}
use Rattle.lit_base.specs.Trail.{level_of}
use Rattle.lit_base.specs.declared.trail.Value.{Value}
use Rattle.lit_base.specs.declared.trail.Value.TheVariants.{True, False, Free}
use Rattle.trail_book.specs.TrailState.{TrailState, IsTrail, standing_of}

-- the index of a literal, each beside its negation
abbrev pub index_of : Literal → ℕ
index_of l = 2 * l.variable + (if l.positive then 0 else 1)

-- where a literal stands, by an array by literal, and 2^30 past its end
abbrev pub standing_at : List ℕ → Literal → ℕ
standing_at standings l = slice_index_or standings (index_of l) (2 ^ 30)

-- the value of a literal, from where it stands
abbrev pub value_by_standing : ℕ → Value
value_by_standing standing = if nat_lt standing (2 ^ 30) then True else (if nat_lt standing (2 ^ 31) then Free else False)

-- the place of a literal's variable, from where the literal stands
abbrev pub place_by_standing : ℕ → Option ℕ
place_by_standing standing = if nat_lt standing (2 ^ 30) then Some standing else (if nat_lt standing (2 ^ 31) then None else Some (standing - 2 ^ 31))

-- the sign of a variable, from the value of its positive literal
abbrev pub sign_by : Value → Option Bool
sign_by True = Some true
sign_by False = Some false
sign_by Free = None

-- where a literal stands after a literal and its negation were given standings
abbrev pub standing_with : Literal → ℕ → ℕ → ℕ → Literal → ℕ
standing_with given own other before l = if given.variable == l.variable then (if beq given.positive l.positive then own else other) else before

-- a number that may be absent, from what is stored for it: one more than it is, and 0 where it is absent
abbrev pub number_by : ℕ → Option ℕ
number_by zero = None
number_by (suc number) = Some number

-- the number of a variable in an array by variable, and none past its end
abbrev pub number_at : List ℕ → ℕ → Option ℕ
number_at numbers v = number_by (slice_index numbers v)

-- the arrays have the standings and the levels of the entries, with room for an entry of each variable
pub record AreArraysOf (t : TrailState) (room : ℕ) (standings levels : List ℕ) : Type 0 where
  pub trail : IsTrail t
  pub room_for_all : length t.saved ≤ room
  pub literals : length standings ≡ 2 * (length t.saved + 1)
  pub leveled : length levels ≡ length t.saved + 1
  pub standing : (l : Literal) → standing_at standings l ≡ standing_of t.entries l
  pub level : (v : ℕ) → number_at levels v ≡ level_of t.entries v
