-- Propagation keeps a trail that fits the clauses, and its conflict is falsified.
use Rattle.std.proofs.Common.{◌≡◌, ℕ, zero, suc, ◌+◌, Bool, true, false, cond, not, ◌&&◌, ◌||◌, List, [], ◌∷◌, refl, sym, ◌∙◌, subst, inl, inr}
use Rattle.std.specs.Prelude.{Option, Some, None, option_map, find}
use Rattle.std.specs.List.{list_any, list_all}
use Rattle.std.proofs.lemmas.Bool.{and_parts, or_cases, or_left, or_right, cond_both}
use Rattle.std.proofs.lemmas.Option.{same_Some}
use Rattle.lit_base.specs.Literal.{Literal, same}
use Rattle.lit_base.specs.declared.trail.Entry.{Entry}
use Rattle.lit_base.specs.declared.name.Name.{Name}
use Rattle.lit_base.specs.Trail.{is_false, is_free, level_now}
use Rattle.lit_base.specs.Rounds.{NamedClause, is_falsified, only_free, unit_of, conflict_of, with_unit, with_units, Propagated, round_by, round, is_last, rounds, propagate}
use Rattle.lit_base.specs.Fits.{IsImplied, IsImpliedBy, IsFitting, IsFalsifiedBy, IsConflict, IsAnswer, PropagatesFitting, FindsAll}
use Rattle.lit_base.proofs.Known.{all_when, found_from_some}
use Rattle.lit_base.proofs.Standing.{Extends, newest_extends, false_extends}

unit_by : (trail : List Entry) (lits : List Literal) (k l : Literal) → list_any (λ m. same m k) lits ≡ true → (b : Bool) → (is_free trail k.variable && list_all (λ m. is_false trail m || same m k) lits) ≡ b →
    cond b (Some k) None ≡ Some l → IsImplied trail l lits
unit_by trail lits k l held true is some =
    subst (λ m. IsImplied trail m lits) (same_Some k l some)
    (record { held = held; others = (and_parts (is_free trail k.variable) (list_all (λ m. is_false trail m || same m k) lits) is).1 })
unit_by trail lits k l held false is some = cc

found_unit : (trail : List Entry) (lits : List Literal) (l : Literal) (o : Option Literal) → find (λ m. not (is_false trail m)) lits ≡ o → only_free trail lits o ≡ Some l → IsImplied trail l lits
found_unit trail lits l None is some = cc
found_unit trail lits l (Some k) is some =
    unit_by trail lits k l (found_from_some (is_false trail) lits k is).1 (is_free trail k.variable && list_all (λ m. is_false trail m || same m k) lits) refl some

-- a unit clause implies its one free literal
pub unit_implied : (trail : List Entry) (lits : List Literal) (l : Literal) → unit_of trail lits ≡ Some l → IsImplied trail l lits
unit_implied trail lits l some = found_unit trail lits l (find (λ m. not (is_false trail m)) lits) refl some

-- what a clause implies, it implies on a longer trail too
pub implied_extends : (older newer : List Entry) (l : Literal) (lits : List Literal) → Extends older newer → IsImplied older l lits → IsImplied newer l lits
implied_extends older newer l lits extends implied = record {
  held = implied.held;
  others = all_when (λ m. is_false older m || same m l) (λ m. is_false newer m || same m l)
      (λ m either. elim (or_cases (is_false older m) (same m l) either) [
        | inl untrue ↦ or_left (is_false newer m) (same m l) (false_extends older newer m extends untrue)
        | inr here ↦ or_right (is_false newer m) (same m l) here
      ]) lits implied.others;
}

-- what each unit of a round keeps
record Grows (look : Name → Option (List Literal)) (snapshot trail : List Entry) : Type 0 where
  fitting : IsFitting look trail
  extends : Extends snapshot trail
  level : level_now trail ≡ level_now snapshot

-- a new entry at the present level, whose reason implies its literal
implied_fitting : (look : Name → Option (List Literal)) (trail : List Entry) (name : Name) (l : Literal) (lits : List Literal) → look name ≡ Some lits → IsFitting look trail →
    is_free trail l.variable ≡ true → IsImplied trail l lits → IsFitting look (record { lit = l; level = level_now trail; reason = Some name } ∷ trail)
implied_fitting look trail name l lits is before free implied = record {
  distinct = (free, before.distinct);
  fits = (subst (λ o. IsImpliedBy trail l o) (sym is) implied, before.fits);
  leveled = (refl, before.leveled);
}

unit_grows : (look : Name → Option (List Literal)) (snapshot : List Entry) (name : Name) (lits : List Literal) → look name ≡ Some lits → (unit : Option Literal) → unit_of snapshot lits ≡ unit →
    (trail : List Entry) → Grows look snapshot trail → Grows look snapshot (with_unit name unit trail)
unit_grows look snapshot name lits is None one trail before = before
unit_grows look snapshot name lits is (Some l) one trail before =
    cond_both (is_free trail l.variable) (record { lit = l; level = level_now trail; reason = Some name } ∷ trail) trail (λ after. Grows look snapshot after)
    (λ free. record {
      fitting = implied_fitting look trail name l lits is before.fitting free (implied_extends snapshot trail l lits before.extends (unit_implied snapshot lits l one));
      extends = λ v sign found. newest_extends (record { lit = l; level = level_now trail; reason = Some name }) trail free v sign (before.extends v sign found);
      level = before.level;
    })
    (λ taken. before)

units_grow : (look : Name → Option (List Literal)) (snapshot : List Entry) (clauses : List NamedClause) → FindsAll look clauses → (trail : List Entry) → Grows look snapshot trail →
    Grows look snapshot (with_units snapshot clauses trail)
units_grow look snapshot [] finds trail before = before
units_grow look snapshot (c ∷ others) finds trail before =
    units_grow look snapshot others finds.1 (with_unit c.name (unit_of snapshot c.lits) trail)
    (unit_grows look snapshot c.name c.lits finds.0 (unit_of snapshot c.lits) refl trail before)

conflict_by : (look : Name → Option (List Literal)) (trail : List Entry) (c : NamedClause) (others : List NamedClause) (name : Name) → look c.name ≡ Some c.lits → (b : Bool) → is_falsified trail c.lits ≡ b →
    option_map (λ d. d.name) (cond b (Some c) (find (λ d. is_falsified trail d.lits) others)) ≡ Some name →
    (conflict_of trail others ≡ Some name → IsConflict look trail name) → IsConflict look trail name
conflict_by look trail c others name is true falsified some later =
    subst (λ n. IsConflict look trail n) (same_Some c.name name some) (subst (λ o. IsFalsifiedBy trail o) (sym is) falsified)
conflict_by look trail c others name is false falsified some later = later some

conflict_found : (look : Name → Option (List Literal)) (trail : List Entry) (clauses : List NamedClause) (name : Name) → FindsAll look clauses → conflict_of trail clauses ≡ Some name →
    IsConflict look trail name
conflict_found look trail [] name finds some = cc
conflict_found look trail (c ∷ others) name finds some =
    conflict_by look trail c others name finds.0 (is_falsified trail c.lits) refl some (conflict_found look trail others name finds.1)

-- the falsified clause of least name is a conflict
pub conflict_answer : (look : Name → Option (List Literal)) (trail : List Entry) (clauses : List NamedClause) (o : Option Name) → FindsAll look clauses → conflict_of trail clauses ≡ o →
    IsAnswer look trail o
conflict_answer look trail clauses None finds is = tt
conflict_answer look trail clauses (Some name) finds is = conflict_found look trail clauses name finds is

round_fits : (look : Name → Option (List Literal)) (clauses : List NamedClause) (trail : List Entry) (o : Option Name) → FindsAll look clauses → IsFitting look trail → conflict_of trail clauses ≡ o →
    PropagatesFitting look trail (round_by clauses trail o)
round_fits look clauses trail None finds fitting is =
    let after = units_grow look trail clauses finds trail (record { fitting = fitting; extends = λ v sign found. found; level = refl }) in
    record { fitting = after.fitting; level = after.level; conflict = tt }
round_fits look clauses trail (Some name) finds fitting is = record { fitting = fitting; level = refl; conflict = conflict_found look trail clauses name finds is }

further : (look : Name → Option (List Literal)) (before middle : List Entry) (after : Propagated) → level_now middle ≡ level_now before → PropagatesFitting look middle after → PropagatesFitting look before after
further look before middle after level rest = record { fitting = rest.fitting; level = rest.level ∙ level; conflict = rest.conflict }

rounds_fit : (most : ℕ) (look : Name → Option (List Literal)) (clauses : List NamedClause) (trail : List Entry) → FindsAll look clauses → IsFitting look trail →
    PropagatesFitting look trail (rounds most clauses trail)
rounds_fit zero look clauses trail finds fitting = record { fitting = fitting; level = refl; conflict = conflict_answer look trail clauses (conflict_of trail clauses) finds refl }
rounds_fit (suc most) look clauses trail finds fitting =
    let r = round clauses trail in
    let one = round_fits look clauses trail (conflict_of trail clauses) finds fitting refl in
    cond_both (is_last trail r) r (rounds most clauses r.trail) (PropagatesFitting look trail)
    (λ last. one) (λ more. further look trail r.trail (rounds most clauses r.trail) one.level (rounds_fit most look clauses r.trail finds one.fitting))

-- propagation keeps a fitting trail
pub propagation_fits : (look : Name → Option (List Literal)) (variables : ℕ) (clauses : List NamedClause) (trail : List Entry) → FindsAll look clauses → IsFitting look trail →
    PropagatesFitting look trail (propagate variables clauses trail)
propagation_fits look variables clauses trail finds fitting = rounds_fit (variables + 1) look clauses trail finds fitting
