-- When a clause that is linked by two of its literals needs no look at a trail, and at older parts of it.
use Rattle.std.specs.Prelude.{◌≡◌, ◌⊎◌, ◌||◌, ℕ, nat_le, true, false, List, ◌++◌, ◌∷◌, Option, Some, None}
use Rattle.std.specs.List.{list_all}
use Rattle.lit_base.specs.Literal.{Literal, same, negation}
use Rattle.lit_base.specs.Fits.{HasDistinctVariables}
use Rattle.trail_book.specs.TrailState.{place_of}
use Rattle.lit_base.specs.Trail.{is_true, is_false}
use Rattle.lit_base.specs.Quiet.{IsOneOf}
use Rattle.lit_base.specs.declared.trail.Entry.{Entry}

-- an older part of a trail, or the whole of it
pub record IsPart (trail part : List Entry) : Type 0 where
  pub newer : List Entry
  pub front : trail ≡ newer ++ part

-- two different literals of a clause
pub record IsPair (lits : List Literal) (a b : Literal) : Type 0 where
  pub first : IsOneOf lits a
  pub second : IsOneOf lits b
  pub apart : same a b ≡ false

-- one of the two is true, or neither is false: so the clause is neither unit nor falsified
abbrev pub IsGuarded : List Entry → Literal → Literal → Type 0
IsGuarded trail a b = (is_true trail a ≡ true) ⊎ ((is_true trail b ≡ true) ⊎ ((is_false trail a ≡ false) × (is_false trail b ≡ false)))

-- all literals but these two are false
abbrev pub AreOthersFalse : List Entry → List Literal → Literal → Literal → Type 0
AreOthersFalse trail lits a b = list_all (λ m. is_false trail m || (same m a || same m b)) lits ≡ true

-- the links are right on the trail: they guard the clause, or all its other literals are false
abbrev pub IsFine : List Entry → List Literal → Literal → Literal → Type 0
IsFine trail lits a b = IsGuarded trail a b ⊎ AreOthersFalse trail lits a b

-- and so they are on each older part of it
abbrev pub IsLinked : List Entry → List Literal → Literal → Literal → Type 0
IsLinked trail lits a b = (part : List Entry) → IsPart trail part → IsFine part lits a b

-- the literal is false, and became so behind the entries that are done
pub record IsLate (trail done : List Entry) (l : Literal) : Type 0 where
  pub now : is_false trail l ≡ true
  pub before : is_false done l ≡ false

-- wherever on the trail this literal is false, all but these two are
abbrev pub AreFalseWith : List Entry → List Literal → Literal → Literal → Literal → Type 0
AreFalseWith trail lits a b l = (part : List Entry) → IsPart trail part → is_false part l ≡ true → AreOthersFalse part lits a b

-- the clause will be met by its link `a`, and till then nothing has to be known of it but where an old link `b` is false
pub record IsWaiting (trail done : List Entry) (lits : List Literal) (a b : Literal) : Type 0 where
  pub late : IsLate trail done a
  pub other : (is_false done b ≡ false) ⊎ AreFalseWith trail lits a b b

-- the clause will be met by one of its links
abbrev pub IsPending : List Entry → List Entry → List Literal → Literal → Literal → Type 0
IsPending trail done lits a b = IsWaiting trail done lits a b ⊎ IsWaiting trail done lits b a

-- the number that is there, or 0
abbrev pub or_zero : Option ℕ → ℕ
or_zero None = 0
or_zero (Some n) = n

-- the place of a literal's variable on the trail, and 0 where it has none
abbrev pub place_in : List Entry → Literal → ℕ
place_in trail l = or_zero (place_of trail l.variable)

-- all literals but this one are false
abbrev pub AreAllBut : List Entry → Literal → List Literal → Type 0
AreAllBut trail other lits = list_all (λ m. is_false trail m || same m other) lits ≡ true

-- a literal of a clause that is neither false nor this one; all but this one are false where there is none
abbrev pub IsOther : List Entry → List Literal → Literal → Option Literal → Type 0
IsOther trail lits other None = AreAllBut trail other lits
IsOther trail lits other (Some l) = IsOneOf lits l × (same l other ≡ false) × (is_false trail l ≡ false)

-- of a clause's literals but one, this one became false last
pub record IsLatest (trail : List Entry) (lits : List Literal) (other last : Literal) : Type 0 where
  pub held : IsOneOf lits last
  pub apart : same last other ≡ false
  pub latest : list_all (λ m. same m other || nat_le (place_in trail m) (place_in trail last)) lits ≡ true

-- the entries that are done, and one more that makes a literal false
pub record IsStep (trail done next : List Entry) (l : Literal) : Type 0 where
  pub distinct : HasDistinctVariables trail
  pub part : IsPart trail next
  pub newest : Entry
  pub is : next ≡ newest ∷ done
  pub falsifies : newest.lit ≡ negation l

-- a literal of a clause beside another: one that isn't false, or where there is none, the one that became false last
pub record IsBeside (trail : List Entry) (lits : List Literal) (other l : Literal) : Type 0 where
  pub held : IsOneOf lits l
  pub apart : same l other ≡ false
  pub choice : (is_false trail l ≡ false) ⊎ (AreAllBut trail other lits × IsLatest trail lits other l)
