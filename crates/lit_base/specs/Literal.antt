-- Literals, as contracts see them.
use Rattle.std.specs.Prelude.{ℕ, ◌≤◌, ◌==◌, Bool, not, ◌&&◌, ℤ, pos, neg_ℤ, if◌then◌else◌, ◌++◌, List, decimal, codes}
use Rattle.std.specs.Bool.{beq}

-- a variable, counted from 1, and whether the literal is the variable itself or its negation
pub record Literal : Type 0 where
  pub variable : ℕ
  pub positive : Bool

-- the literal of the same variable and the other sign
abbrev pub negation : Literal → Literal
negation l = record { variable = l.variable; positive = not l.positive }

-- whether two literals are one: the same variable with the same sign
abbrev pub same : Literal → Literal → Bool
same a b = (a.variable == b.variable) && beq a.positive b.positive

-- the number of a literal in DIMACS: v for variable v, -v for its negation
abbrev pub dimacs_number : Literal → ℤ
dimacs_number l = if l.positive then pos l.variable else neg_ℤ (pos l.variable)

-- the literal's variable is one of 1 to `variables`
abbrev pub IsWithin : ℕ → Literal → Type 0
IsWithin variables l = (1 ≤ l.variable) × (l.variable ≤ variables)

-- the literal as DIMACS writes it: a `-` before the variable where it is negated
abbrev pub literal_text : Literal → List ℕ
literal_text l = (if l.positive then codes "" else codes "-") ++ decimal l.variable
