-- Parts of one arena of literals, the newest first.
use Rattle.std.specs.Prelude.{◌≡◌, ℕ, ◌+◌, ◌≤◌, ◌==◌, ⊤, List, [], ◌∷◌, length, Option, Some, None, slice_range, if◌then◌else◌}
use Rattle.lit_base.specs.Literal.{Literal}

-- where the newest of these parts ends; the oldest begins at 0
abbrev pub end_of : List ℕ → ℕ
end_of [] = 0
end_of (e ∷ older) = e

-- the parts of an arena that end here, each of which begins where the older one ends
abbrev pub parts_of : List Literal → List ℕ → List (List Literal)
parts_of literals [] = []
parts_of literals (e ∷ older) = slice_range literals (end_of older) e ∷ parts_of literals older

-- no part ends before it begins
abbrev pub AreEnds : List ℕ → Type 0
AreEnds [] = ⊤
AreEnds (e ∷ older) = (end_of older ≤ e) × AreEnds older

-- the parts fill the arena
pub record IsArena (literals : List Literal) (ends : List ℕ) : Type 0 where
  pub ordered : AreEnds ends
  pub full : end_of ends ≡ length literals

-- what stands at a place, counted from the oldest
abbrev pub at_place : {X : Type 0} → List X → ℕ → Option X
at_place [] place = None
at_place (x ∷ older) place = if place == length older then Some x else at_place older place

-- how many literals these clauses have
abbrev pub literals_in : List (List Literal) → ℕ
literals_in [] = 0
literals_in (lits ∷ older) = length lits + literals_in older
