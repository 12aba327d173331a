-- A conflict has two literals of the current level, where its clause was quiet a level before.
use Rattle.std.proofs.Common.{◌≡◌, ℕ, ◌==◌, ◌+◌, ◌≤◌, ◌<◌, Bool, true, false, cond, not, ◌&&◌, ◌||◌, List, [], ◌∷◌, refl, ap, sym, ◌∙◌, ◌⊎◌, inl, inr, arith}
use Rattle.std.specs.Prelude.{Option, Some, None, is_none, find}
use Rattle.std.specs.Bool.{beq}
use Rattle.std.specs.List.{list_all}
use Rattle.std.proofs.lemmas.Bool.{and_from, eq-eqb, or_parts, both_ways, cases_lt}
use Rattle.std.proofs.lemmas.Option.{same_Some}
use Rattle.lit_base.specs.Literal.{Literal, same}
use Rattle.lit_base.specs.Trail.{sign_of, is_false, is_free, level_of, level_now}
use Rattle.lit_base.specs.Backjump.{cut}
use Rattle.lit_base.specs.Rounds.{is_falsified, only_free}
use Rattle.lit_base.specs.Fits.{IsFitting}
use Rattle.lit_base.specs.Quiet.{IsQuiet, HasTwoOfLevel}
use Rattle.lit_base.specs.declared.trail.Entry.{Entry}
use Rattle.lit_base.specs.declared.name.Name.{Name}
use Rattle.lit_base.proofs.Standing.{negation_stands, false_from_stands}
use Rattle.lit_base.proofs.Known.{all_at, all_from_none, found_from_some, beq_itself}
use Rattle.lit_base.proofs.DistinctLits.{not_not}
use Rattle.lit_base.proofs.Cuts.{level_of-at_most, sign_of-cut-below, sign_of-cut-above}

level_by : (e : Entry) (o : Option Bool) (p : Option ℕ) (sign b : Bool) → cond b (Some e.lit.positive) o ≡ Some sign → (o ≡ Some sign → (m : ℕ) × (p ≡ Some m)) →
    (m : ℕ) × (cond b (Some e.level) p ≡ Some m)
level_by e o p sign true is later = (e.level, refl)
level_by e o p sign false is later = later is

-- a variable that stands is of some level
pub level_of-stands : (v : ℕ) (sign : Bool) (trail : List Entry) → sign_of trail v ≡ Some sign → (m : ℕ) × (level_of trail v ≡ Some m)
level_of-stands v sign [] is = cc
level_of-stands v sign (e ∷ older) is = level_by e (sign_of older v) (level_of older v) sign (e.lit.variable == v) is (level_of-stands v sign older)

-- a literal that is false now and was not a level before is of the current level, and was free
record IsNew (trail : List Entry) (level : ℕ) (l : Literal) : Type 0 where
  stands : level_of trail l.variable ≡ Some (level + 1)
  free : sign_of (cut level trail) l.variable ≡ None

new_by_level : (look : Name → Option (List Literal)) (trail : List Entry) (level m : ℕ) (l : Literal) → IsFitting look trail → level_now trail ≡ level + 1 →
    is_false trail l ≡ true → is_false (cut level trail) l ≡ false → level_of trail l.variable ≡ Some m → (level < m) ⊎ (m ≤ level) → IsNew trail level l
new_by_level look trail level m l fitting now untrue before is (inl high) =
    let most : m ≤ level_now trail = level_of-at_most l.variable m trail fitting.leveled is in
    let at : m ≡ level + 1 = omega arith in
    record { stands = is ∙ ap (λ n. Some n) at; free = sign_of-cut-above level m l.variable trail fitting.distinct fitting.leveled is high }
new_by_level look trail level m l fitting now untrue before is (inr low) =
    absurd (both_ways (is_false (cut level trail) l) before
    (false_from_stands (cut level trail) l (sign_of-cut-below level m l.variable trail fitting.distinct fitting.leveled is low ∙ negation_stands trail l untrue)))

new_literal : (look : Name → Option (List Literal)) (trail : List Entry) (level : ℕ) (l : Literal) → IsFitting look trail → level_now trail ≡ level + 1 →
    is_false trail l ≡ true → is_false (cut level trail) l ≡ false → IsNew trail level l
new_literal look trail level l fitting now untrue before =
    let found = level_of-stands l.variable (not l.positive) trail (negation_stands trail l untrue) in
    new_by_level look trail level found.0 l fitting now untrue before found.1 (cases_lt level found.0)

-- false literals of one variable are one
same_by_variable : (trail : List Entry) (a b : Literal) → is_false trail a ≡ true → is_false trail b ≡ true → a.variable ≡ b.variable → same a b ≡ true
same_by_variable trail a b first second is =
    let signs : not a.positive ≡ not b.positive =
    same_Some (not a.positive) (not b.positive) (sym (negation_stands trail a first) ∙ (ap (λ v. sign_of trail v) is ∙ negation_stands trail b second)) in
    let one : a.positive ≡ b.positive = sym (not_not a.positive) ∙ (ap not signs ∙ not_not b.positive) in
    and_from (a.variable == b.variable) (beq a.positive b.positive) (eq-eqb a.variable b.variable is) (ap (λ p. beq a.positive p) (sym one) ∙ beq_itself a.positive)

-- a literal that fails a test, where not all pass it
some_fails : (q : Literal → Bool) (lits : List Literal) → list_all q lits ≡ false → (l : Literal) × (find (λ m. not (q m)) lits ≡ Some l)
some_fails q lits some = by_first (find (λ m. not (q m)) lits) refl
  where
    by_first : (o : Option Literal) → find (λ m. not (q m)) lits ≡ o → (l : Literal) × (find (λ m. not (q m)) lits ≡ Some l)
    by_first None is = absurd (both_ways (list_all q lits) some (all_from_none q lits is))
    by_first (Some l) is = (l, is)

-- a free literal that is not the unit of its clause leaves another that isn't false
not_only : (free all : Bool) (l : Literal) → free ≡ true → cond (free && all) (Some l) None ≡ None → all ≡ false
not_only true true l is none = cc
not_only true false l is none = refl
not_only false all l is none = cc

-- a falsified clause that was neither unit nor falsified a level before has two literals of the current level
pub has_two : (look : Name → Option (List Literal)) (trail : List Entry) (level : ℕ) (lits : List Literal) → IsFitting look trail → level_now trail ≡ level + 1 →
    is_falsified trail lits ≡ true → IsQuiet (cut level trail) lits → HasTwoOfLevel trail (level + 1) lits
has_two look trail level lits fitting now falsified quiet =
    let before = cut level trail in
    let one = some_fails (is_false before) lits quiet.not_falsified in
    let first = one.0 in
    let first_found = found_from_some (is_false before) lits first one.1 in
    let first_false = all_at (is_false trail) lits first falsified first_found.1 in
    let first_new = new_literal look trail level first fitting now first_false first_found.0 in
    let passes = λ (m : Literal). is_false before m || same m first in
    let more : list_all passes lits ≡ false =
    not_only (is_free before first.variable) (list_all passes lits) first (ap is_none first_new.free) (sym (ap (only_free before lits) one.1) ∙ quiet.not_unit) in
    let other = some_fails passes lits more in
    let second = other.0 in
    let second_found = found_from_some passes lits second other.1 in
    let apart = or_parts (is_false before second) (same second first) second_found.0 in
    let second_false = all_at (is_false trail) lits second falsified second_found.1 in
    let second_new = new_literal look trail level second fitting now second_false apart.0 in
    record {
      first = first;
      second = second;
      first_there = first_found.1;
      second_there = second_found.1;
      distinct = λ is. both_ways (same second first) apart.1 (same_by_variable trail second first second_false first_false (sym is));
      first_level = first_new.stands;
      second_level = second_new.stands;
    }
