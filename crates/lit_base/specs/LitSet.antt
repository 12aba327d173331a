-- A set of literals, as contracts see it.
use Rattle.std.specs.Prelude.{◌≡◌, ℕ, ◌+◌, ◌*◌, ◌≤◌, ◌==◌, Bool, false, List, [], ◌∷◌, ◌++◌, slice_index_or, if◌then◌else◌}
use Rattle.std.specs.List.{list_any}
use Rattle.lit_base.specs.Literal.{Literal, same}

-- of how many variables its literals are, and those that it has, in the order in which they were put in
pub record LitSetState : Type 0 where
  pub variables : ℕ
  pub lits : List Literal

-- the literals with one more at their end, where they don't have it
abbrev pub with_lit : List Literal → Literal → List Literal
with_lit lits l = if list_any (same l) lits then lits else lits ++ l ∷ []

-- the place of a literal in an array by literal
abbrev pub index_of : Literal → ℕ
index_of l = 2 * l.variable + (if l.positive then 0 else 1)

-- there is a flag for each literal of so many variables, and just those of the literals that the set has are set
pub record IsFlagged (variables count : ℕ) (flags : List Bool) (lits : List Literal) : Type 0 where
  pub sized : 1 ≤ variables → 2 * variables + 2 ≤ count
  pub flagged : (k : ℕ) → slice_index_or flags k false ≡ list_any (λ l. index_of l == k) lits
