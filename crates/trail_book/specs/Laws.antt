-- What holds of a jump, and of where literals stand.
use Rattle.std.specs.Prelude.{ℕ, ◌≡◌, ◌≤◌, ◌<◌, ◌^◌, ◌↔◌, true, false, nat_le, List, ◌++◌, filter}
use Rattle.lit_base.specs.Literal.{Literal}
use Rattle.lit_base.specs.Trail.{is_true, is_false, is_free}
use Rattle.lit_base.specs.Backjump.{last_value}
use Rattle.lit_base.specs.declared.trail.Entry.{Entry}
use Rattle.trail_book.specs.TrailState.{TrailState, IsTrail, jumped, standing_of}

-- exactly the entries above the level leave, and the others stay in their order
abbrev pub HigherLeave : Type 0
HigherLeave = (level : ℕ) (t : TrailState) → IsTrail t → (jumped level t).entries ≡ filter (λ e. nat_le e.level level) t.entries

-- no variable's last value changes
abbrev pub LastValuesStay : Type 0
LastValuesStay = (level v : ℕ) (t : TrailState) → IsTrail t → 1 ≤ v →
    last_value (jumped level t).entries (jumped level t).saved v ≡ last_value t.entries t.saved v

-- on an older part of the trail, a literal's variable has a value and another's is still free
pub record IsAssignedBefore (trail : List Entry) (l other : Literal) : Type 0 where
  pub newer : List Entry
  pub older : List Entry
  pub parts : trail ≡ newer ++ older
  pub assigned : is_free older l.variable ≡ false
  pub free : is_free older other.variable ≡ true

-- what the standings of literals tell of their values
pub record TellValues (trail : List Entry) : Type 0 where
  pub holds : (l : Literal) → (is_true trail l ≡ true) ↔ (standing_of trail l < 2 ^ 30)
  pub free : (l : Literal) → (is_free trail l.variable ≡ true) ↔ (standing_of trail l ≡ 2 ^ 30)
  pub fails : (l : Literal) → (is_false trail l ≡ true) ↔ (2 ^ 31 ≤ standing_of trail l)

-- and of their order
pub record TellOrder (trail : List Entry) : Type 0 where
  -- a literal that is true, and was assigned before another, has the lesser standing
  pub older : (l other : Literal) → is_true trail l ≡ true → IsAssignedBefore trail l other → standing_of trail l < standing_of trail other
  -- of two true literals the one with the lesser standing became true before the other
  pub earlier : (l other : Literal) → is_true trail l ≡ true → is_true trail other ≡ true → (standing_of trail l < standing_of trail other) ↔ IsAssignedBefore trail l other
  -- of two false literals the one with the greater standing became false after the other
  pub later : (l other : Literal) → is_false trail l ≡ true → is_false trail other ≡ true → (standing_of trail l < standing_of trail other) ↔ IsAssignedBefore trail l other

-- the standings tell the values, and which of two true or two false literals was assigned before the other
abbrev pub StandingsTellValues : Type 0
StandingsTellValues = (t : TrailState) → IsTrail t → TellValues t.entries

abbrev pub StandingsTellOrder : Type 0
StandingsTellOrder = (t : TrailState) → IsTrail t → TellOrder t.entries
