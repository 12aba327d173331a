-- The room of a walk: what it gathers is bounded by the entries of the trail, so none of it takes memory.
use Rattle.std.specs.Prelude.{◌≡◌, ◌≤◌, ◌+◌, ℕ, vec_len, vec_capacity}
use Rattle.first_uip.specs.Marks.{AreClear}
use Rattle.first_uip.specs.declared.walk.Walk.{Walk}

-- there is room for a literal and a touched variable of so many entries, for their reasons and the conflict as hints,
-- and for the places of the marked variables, of which one may be 0
pub record HasRoom (entries : ℕ) (walk : Walk) : Type 0 where
  pub lits : entries ≤ vec_capacity walk.lits
  pub hints : entries + 1 ≤ vec_capacity walk.hints
  pub touched : entries ≤ vec_capacity walk.touched
  pub places : entries + 1 ≤ vec_capacity walk.places

-- between two walks over so many variables nothing is marked, and there is room for an entry of each
pub record IsIdle (variables : ℕ) (walk : Walk) : Type 0 where
  pub marks : AreClear (variables + 1) walk.marks
  pub room : HasRoom variables walk

-- so many entries more find room in each list
pub record HasSpare (entries : ℕ) (walk : Walk) : Type 0 where
  pub lits : vec_len walk.lits + entries ≤ vec_capacity walk.lits
  pub hints : vec_len walk.hints + entries ≤ vec_capacity walk.hints
  pub touched : vec_len walk.touched + entries ≤ vec_capacity walk.touched

-- the lists have the room that they had
pub record IsSameRoom (walk after : Walk) : Type 0 where
  pub lits : vec_capacity after.lits ≡ vec_capacity walk.lits
  pub hints : vec_capacity after.hints ≡ vec_capacity walk.hints
  pub touched : vec_capacity after.touched ≡ vec_capacity walk.touched
  pub places : vec_capacity after.places ≡ vec_capacity walk.places

-- what was gathered is as it was
pub record IsSameGathered (walk after : Walk) : Type 0 where
  pub lits : after.lits ≡ walk.lits
  pub hints : after.hints ≡ walk.hints
  pub back : after.back ≡ walk.back
  pub touched : after.touched ≡ walk.touched

-- each list has at most one item more, in the same room
pub record Grows (walk after : Walk) : Type 0 where
  pub lits : vec_len after.lits ≤ vec_len walk.lits + 1
  pub hints : vec_len after.hints ≤ vec_len walk.hints + 1
  pub touched : vec_len after.touched ≤ vec_len walk.touched + 1
  pub room : IsSameRoom walk after
