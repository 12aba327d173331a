-- When a clause of a generated formula is true in a model.
use Rattle.std.proofs.Common.{◌≡◌, Bool, true, false, not, ◌||◌, List, [], ◌∷◌, filter, refl, ap, sym, ◌∙◌}
use Rattle.std.specs.Bool.{beq}
use Rattle.std.specs.List.{list_any}
use Rattle.std.proofs.lemmas.Bool.{not_from_false, false_from_ne_true, true≢false}
use Rattle.std.proofs.lemmas.Map.Views.{any-filter_same}
use Rattle.lit_base.specs.Literal.{Literal, same}
use Rattle.lit_base.specs.Distinct.{distinct}
use Rattle.lit_base.proofs.DistinctLits.{same-true}

-- a literal that passes a test is kept beside one that doesn't
kept_beside : (t : Literal → Bool) (l m : Literal) → t l ≡ false → t m ≡ true → not (same l m) ≡ true
kept_beside t l m fails passes =
    not_from_false (same l m) (false_from_ne_true (same l m) (λ is. true≢false (sym passes ∙ (ap t (sym (same-true l m is)) ∙ fails))))

any-distinct_step : (t : Literal → Bool) (l : Literal) (ls : List Literal) (b : Bool) → t l ≡ b → list_any t (distinct ls) ≡ list_any t ls →
    (b || list_any t (filter (λ m. not (same l m)) (distinct ls))) ≡ (b || list_any t ls)
any-distinct_step t l ls true is others = refl
any-distinct_step t l ls false is others =
    any-filter_same t (λ m. not (same l m)) true (λ m passes. kept_beside t l m is passes) (distinct ls) ∙ others

-- a clause has a literal that passes where the list that it was made of has one
pub list_any-distinct : (t : Literal → Bool) (lits : List Literal) → list_any t (distinct lits) ≡ list_any t lits
list_any-distinct t [] = refl
list_any-distinct t (l ∷ ls) = any-distinct_step t l ls (t l) refl (list_any-distinct t ls)

-- a clause of two negations is true where the two aren't both true
pub not_both_true : (a b : Bool) → (beq a false || (beq b false || false)) ≡ true → a ≡ true → b ≡ true → ⊥
not_both_true true true is first second = cc
not_both_true true false is first second = cc
not_both_true false b is first second = cc

pub not_both_from : (a b : Bool) → (a ≡ true → b ≡ true → ⊥) → (beq a false || (beq b false || false)) ≡ true
not_both_from true true never = absurd (never refl refl)
not_both_from true false never = refl
not_both_from false b never = refl

-- so is a list of one positive literal
pub one_true : (b : Bool) → (beq b true || false) ≡ true → b ≡ true
one_true true is = refl
one_true false is = cc

pub one_from : (b : Bool) → b ≡ true → (beq b true || false) ≡ true
one_from true is = refl
one_from false is = cc
