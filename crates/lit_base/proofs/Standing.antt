-- Literals that stand on a trail, and trails that grow.
use Rattle.std.proofs.Common.{◌≡◌, ℕ, ◌==◌, Bool, true, false, cond, not, List, ◌∷◌, refl, ap, sym, ◌∙◌}
use Rattle.std.specs.Prelude.{Option, Some, None, is_none}
use Rattle.std.proofs.lemmas.Bool.{eqb-true, eq-eqb}
use Rattle.std.proofs.lemmas.Option.{same_Some}
use Rattle.lit_base.specs.Literal.{Literal, negation}
use Rattle.lit_base.specs.declared.trail.Entry.{Entry}
use Rattle.lit_base.specs.Trail.{sign_of, value_by, is_false_value, is_false, is_free}

-- the literal stands on the trail
abbrev pub Stands : List Entry → Literal → Type 0
Stands trail l = sign_of trail l.variable ≡ Some l.positive

false_by_sign : (o : Option Bool) (p : Bool) → is_false_value (value_by o p) ≡ true → o ≡ Some (not p)
false_by_sign None p is = cc
false_by_sign (Some true) true is = cc
false_by_sign (Some true) false is = refl
false_by_sign (Some false) true is = refl
false_by_sign (Some false) false is = cc

sign_by_false : (o : Option Bool) (p : Bool) → o ≡ Some (not p) → is_false_value (value_by o p) ≡ true
sign_by_false o true is = ap (λ s. is_false_value (value_by s true)) is
sign_by_false o false is = ap (λ s. is_false_value (value_by s false)) is

-- a literal is false where its negation stands
pub negation_stands : (trail : List Entry) (l : Literal) → is_false trail l ≡ true → Stands trail (negation l)
negation_stands trail l is = false_by_sign (sign_of trail l.variable) l.positive is

pub false_from_stands : (trail : List Entry) (l : Literal) → Stands trail (negation l) → is_false trail l ≡ true
false_from_stands trail l stands = sign_by_false (sign_of trail l.variable) l.positive stands

not_itself : (b : Bool) → not b ≡ b → ⊥
not_itself true is = cc
not_itself false is = cc

-- a literal and its negation don't both stand
pub not_both_stand : (trail : List Entry) (l : Literal) → Stands trail l → Stands trail (negation l) → ⊥
not_both_stand trail l plain negated = not_itself l.positive (same_Some (not l.positive) l.positive (sym negated ∙ plain))

-- what stands on the one stands on the other
abbrev pub Extends : List Entry → List Entry → Type 0
Extends older newer = (v : ℕ) (sign : Bool) → sign_of older v ≡ Some sign → sign_of newer v ≡ Some sign

newest_by : (b : Bool) (p : Bool) (o : Option Bool) → b ≡ true → cond b (Some p) o ≡ Some p
newest_by true p o is = refl
newest_by false p o is = cc

-- the newest entry's literal stands
pub newest_stands : (e : Entry) (older : List Entry) → Stands (e ∷ older) e.lit
newest_stands e older = newest_by (e.lit.variable == e.lit.variable) e.lit.positive (sign_of older e.lit.variable) (eq-eqb e.lit.variable e.lit.variable refl)

pub free_and_found : (o : Option Bool) (sign : Bool) → is_none o ≡ true → o ≡ Some sign → ⊥
free_and_found None sign free found = cc
free_and_found (Some s) sign free found = cc

older_by : (e : Entry) (older : List Entry) (v : ℕ) (sign : Bool) (b : Bool) → (e.lit.variable == v) ≡ b → is_free older e.lit.variable ≡ true → sign_of older v ≡ Some sign →
    cond b (Some e.lit.positive) (sign_of older v) ≡ Some sign
older_by e older v sign true is free found =
    absurd (free_and_found (sign_of older e.lit.variable) sign free (ap (λ w. sign_of older w) (eqb-true e.lit.variable v is) ∙ found))
older_by e older v sign false is free found = found

-- a new entry of a free variable leaves what stands
pub newest_extends : (e : Entry) (older : List Entry) → is_free older e.lit.variable ≡ true → Extends older (e ∷ older)
newest_extends e older free v sign found = older_by e older v sign (e.lit.variable == v) refl free found

pub false_extends : (older newer : List Entry) (l : Literal) → Extends older newer → is_false older l ≡ true → is_false newer l ≡ true
false_extends older newer l extends is = false_from_stands newer l (extends l.variable (not l.positive) (negation_stands older l is))
