-- A trail: the assigned literals, the newest entry first, each with its level and its reason.
use Rattle.std.specs.Prelude.{ℕ, zero, suc, ◌+◌, ◌==◌, Bool, true, false, not, ◌&&◌, List, [], ◌∷◌, Option, Some, None, is_none, if◌then◌else◌}
use Rattle.std.specs.Bool.{beq}
use Rattle.lit_base.specs.Literal.{Literal}
use Rattle.lit_base.specs.declared.trail.Entry.{Entry}
use Rattle.lit_base.specs.declared.trail.Value.{Value}
use Rattle.lit_base.specs.declared.trail.Value.TheVariants.{True, False, Free}

-- the sign with which a variable stands on the trail, if it does
abbrev pub sign_of : List Entry → ℕ → Option Bool
sign_of [] v = None
sign_of (e ∷ older) v = if e.lit.variable == v then Some e.lit.positive else sign_of older v

-- the value of a literal of this sign, from the sign of its variable on the trail
abbrev pub value_by : Option Bool → Bool → Value
value_by None positive = Free
value_by (Some sign) positive = if beq sign positive then True else False

-- a literal is true where it stands on the trail, false where its negation does, else free
abbrev pub trail_value : List Entry → Literal → Value
trail_value trail l = value_by (sign_of trail l.variable) l.positive

-- whether a value is each of the three
abbrev pub is_true_value : Value → Bool
is_true_value True = true
is_true_value False = false
is_true_value Free = false

abbrev pub is_false_value : Value → Bool
is_false_value True = false
is_false_value False = true
is_false_value Free = false

-- whether the literal stands on the trail
abbrev pub is_true : List Entry → Literal → Bool
is_true trail l = is_true_value (trail_value trail l)

-- whether its negation stands on the trail
abbrev pub is_false : List Entry → Literal → Bool
is_false trail l = is_false_value (trail_value trail l)

-- whether the variable does not stand on the trail
abbrev pub is_free : List Entry → ℕ → Bool
is_free trail v = is_none (sign_of trail v)

-- the level of the newest entry, and 0 on the empty trail
abbrev pub level_now : List Entry → ℕ
level_now [] = 0
level_now (e ∷ older) = e.level

-- the level at which a variable stands on the trail, if it does
abbrev pub level_of : List Entry → ℕ → Option ℕ
level_of [] v = None
level_of (e ∷ older) v = if e.lit.variable == v then Some e.level else level_of older v

-- the trail with a decision, which begins a new level
abbrev pub with_decision : Literal → List Entry → List Entry
with_decision l trail = record { lit = l; level = level_now trail + 1; reason = None } ∷ trail

-- the first variable that is free, of the n from `first` on
abbrev pub first_free : ℕ → ℕ → List Entry → Option ℕ
first_free zero first trail = None
first_free (suc n) first trail = if is_free trail first then Some first else first_free n (suc first) trail

-- whether each variable from 1 to n stands on the trail
abbrev pub is_full : ℕ → List Entry → Bool
is_full zero trail = true
is_full (suc n) trail = not (is_free trail (suc n)) && is_full n trail

-- the sign of a variable, and false where it is free
abbrev pub value_or_false : Option Bool → Bool
value_or_false None = false
value_or_false (Some sign) = sign

-- the values that the trail gives the n variables from `first` on
abbrev pub values_from : ℕ → ℕ → List Entry → List Bool
values_from zero first trail = []
values_from (suc n) first trail = value_or_false (sign_of trail first) ∷ values_from n (suc first) trail

-- the values that the trail gives the variables from 1 to n: a model, where the trail is full
abbrev pub model_of : ℕ → List Entry → List Bool
model_of n trail = values_from n 1 trail
