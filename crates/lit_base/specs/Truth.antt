-- Truth of clauses and formulas in a model: the usual semantics of a conjunction of disjunctions.
use Rattle.std.specs.Prelude.{ℕ, ◌-◌, ◌≡◌, Bool, true, false, List, slice_index_or}
use Rattle.std.specs.List.{list_any, list_all}
use Rattle.std.specs.Bool.{beq}
use Rattle.lit_base.specs.Literal.{Literal}
use Rattle.lit_base.specs.Cnf.{Cnf}

-- what the model gives a variable, counted from 1; false past the model's end
abbrev pub value_in : List Bool → ℕ → Bool
value_in model v = slice_index_or model (v - 1) false

-- a literal is true where its variable's value is its sign
abbrev pub is_true_in : List Bool → Literal → Bool
is_true_in model l = beq (value_in model l.variable) l.positive

-- a clause is true where one of its literals is; so the empty clause is false
abbrev pub is_clause_true : List Bool → List Literal → Bool
is_clause_true model lits = list_any (is_true_in model) lits

-- whether each clause of the formula is true
abbrev pub satisfies : List Bool → Cnf → Bool
satisfies model cnf = list_all (is_clause_true model) cnf.clauses

-- each clause of the formula is true
abbrev pub Satisfies : List Bool → Cnf → Type 0
Satisfies model cnf = satisfies model cnf ≡ true
