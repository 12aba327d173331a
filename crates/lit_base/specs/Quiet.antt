-- Clauses that propagation has nothing to do with, and what a conflict above level 0 teaches
-- where no clause was left unit or falsified at a lower level.
use Rattle.std.specs.Prelude.{ℕ, ◌<◌, ◌≤◌, ◌≡◌, ◌≢◌, IsTrue, IsFalse, List, ◌∷◌, Some, None}
use Rattle.std.specs.List.{list_any, AllByRecursion}
use Rattle.lit_base.specs.Literal.{Literal, same}
use Rattle.lit_base.specs.Trail.{level_now, level_of}
use Rattle.lit_base.specs.Backjump.{cut}
use Rattle.lit_base.specs.Rounds.{NamedClause, is_falsified, unit_of}
use Rattle.lit_base.specs.declared.trail.Entry.{Entry}
use Rattle.lit_base.specs.declared.lesson.Lesson.{Lesson}

-- the clause is neither falsified nor unit on the trail
pub record IsQuiet (trail : List Entry) (lits : List Literal) : Type 0 where
  pub not_falsified : IsFalse (is_falsified trail lits)
  pub not_unit : unit_of trail lits ≡ None

-- no clause is falsified or unit on the trail
abbrev pub AreQuiet : List Entry → List NamedClause → Type 0
AreQuiet trail clauses = AllByRecursion (λ c. IsQuiet trail c.lits) clauses

-- for each level below the current one, no clause is falsified or unit on the trail cut to that level
abbrev pub AreQuietBelow : List Entry → List NamedClause → Type 0
AreQuietBelow trail clauses = (level : ℕ) → level < level_now trail → AreQuiet (cut level trail) clauses

-- the literal is one of these
abbrev pub IsOneOf : List Literal → Literal → Type 0
IsOneOf lits l = IsTrue (list_any (λ m. same m l) lits)

-- two literals of the clause, of different variables, are of the level
pub record HasTwoOfLevel (trail : List Entry) (level : ℕ) (lits : List Literal) : Type 0 where
  pub first : Literal
  pub second : Literal
  pub first_there : IsOneOf lits first
  pub second_there : IsOneOf lits second
  pub distinct : first.variable ≢ second.variable
  pub first_level : level_of trail first.variable ≡ Some level
  pub second_level : level_of trail second.variable ≡ Some level

-- the variable of the literal is of a level from 1 to the most
pub record IsOfLevelUpTo (trail : List Entry) (most : ℕ) (l : Literal) : Type 0 where
  pub level : ℕ
  pub stands : level_of trail l.variable ≡ Some level
  pub above_root : 1 ≤ level
  pub at_most : level ≤ most

-- an asserting lesson: the lemma's first literal is of the current level, and all its others are of levels from 1 up to
-- `back`, which is lower; on the trail cut to `back` the lemma is unit, and cut to a lower level it is quiet
-- (Marques-Silva and Sakallah 1996)
pub record IsAsserting (trail : List Entry) (lesson : Lesson) : Type 0 where
  pub first : Literal
  pub others : List Literal
  pub lits : lesson.lits ≡ first ∷ others
  pub first_level : level_of trail first.variable ≡ Some (level_now trail)
  pub others_levels : AllByRecursion (IsOfLevelUpTo trail lesson.back) others
  pub back_lower : lesson.back < level_now trail
  pub unit_after : unit_of (cut lesson.back trail) lesson.lits ≡ Some first
  pub quiet_before : (level : ℕ) → level < lesson.back → IsQuiet (cut level trail) lesson.lits
