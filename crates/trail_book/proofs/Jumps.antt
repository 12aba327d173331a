-- What a jump leaves: the entries up to the level, and the last value of each variable.
use Rattle.std.proofs.Common.{◌≡◌, ◌≢◌, ℕ, ◌==◌, ◌-◌, ◌≤◌, Bool, true, false, cond, List, [], ◌∷◌, length, get_or, refl, ap, ◌∙◌, sym, subst, arith, length-set, get_or-set_same, get_or-set_other}
use Rattle.std.specs.Prelude.{Option, Some, None, nat_le, filter}
use Rattle.std.specs.List.{AllByRecursion}
use Rattle.std.proofs.lemmas.Bool.{eqb-true, eqb-false, le-leb, leb-true}
use Rattle.lit_base.specs.Literal.{IsWithin}
use Rattle.lit_base.specs.declared.trail.Entry.{Entry}
use Rattle.lit_base.specs.Trail.{sign_of, is_free}
use Rattle.lit_base.specs.Backjump.{cut, with_saved, saved_after, one_or_other, last_value}
use Rattle.lit_base.specs.Fits.{HasDistinctVariables, IsLeveled}
use Rattle.trail_book.specs.TrailState.{TrailState, IsTrail, jumped}
use Rattle.trail_book.proofs.Holding.{levels_below}
use Rattle.trail_book.proofs.Places.{sign_of-free}

-- where each entry is of a level up to this one, none is filtered out
all_stay : (level : ℕ) (trail : List Entry) → AllByRecursion (λ e. e.level ≤ level) trail → filter (λ e. nat_le e.level level) trail ≡ trail
all_stay level [] all = refl
all_stay level (e ∷ older) all = rw (le-leb e.level level all.0) (ap (λ es. e ∷ es) (all_stay level older all.1))

-- levels never fall, so the entries of higher levels are the newest
cut-filter : (level : ℕ) (trail : List Entry) → IsLeveled trail → cut level trail ≡ filter (λ e. nat_le e.level level) trail
cut-filter level [] leveled = refl
cut-filter level (e ∷ older) leveled = by_level (nat_le e.level level) refl (cut-filter level older leveled.1)
  where
    by_level : (b : Bool) → nat_le e.level level ≡ b → cut level older ≡ filter (λ e. nat_le e.level level) older →
        cond b (e ∷ older) (cut level older) ≡ cond b (e ∷ filter (λ e. nat_le e.level level) older) (filter (λ e. nat_le e.level level) older)
    by_level true low rest = ap (λ es. e ∷ es) (sym (all_stay level older (levels_below level (e ∷ older) leveled (leb-true _ _ low)).1))
    by_level false high rest = rest

pub higher_leave : (level : ℕ) (t : TrailState) → IsTrail t → (jumped level t).entries ≡ filter (λ e. nat_le e.level level) t.entries
higher_leave level t trail = cut-filter level t.entries trail.leveled

-- an entry that leaves is saved
last-saved : (e : Entry) (older : List Entry) (saved : List (Option Bool)) (v : ℕ) → is_free older e.lit.variable ≡ true → IsWithin (length saved) e.lit → 1 ≤ v →
    last_value older (with_saved e saved) v ≡ last_value (e ∷ older) saved v
last-saved e older saved v free within low = by_test (e.lit.variable == v) refl
  where
    by_test : (b : Bool) → (e.lit.variable == v) ≡ b → last_value older (with_saved e saved) v ≡ one_or_other (cond b (Some e.lit.positive) (sign_of older v)) (get_or saved (v - 1) None)
    by_test true is =
        let here : e.lit.variable ≡ v = eqb-true _ _ is in
        let none : sign_of older v ≡ None = sign_of-free older v (subst (λ w. is_free older w ≡ true) here free) in
        ap (λ sign. one_or_other sign (get_or (with_saved e saved) (v - 1) None)) none
        ∙ subst (λ w. get_or (with_saved e saved) (w - 1) None ≡ Some e.lit.positive) here (get_or-set_same saved (e.lit.variable - 1) (Some e.lit.positive) None (omega (arith, within.0, within.1)))
    by_test false is =
        let other : e.lit.variable ≡ v → ⊥ = eqb-false _ _ is in
        let apart : (v - 1) ≢ (e.lit.variable - 1) = λ same. other (omega (arith, same, within.0)) in
        ap (λ o. one_or_other (sign_of older v) o) (get_or-set_other saved (e.lit.variable - 1) (v - 1) (Some e.lit.positive) None apart)

last-jumped : (level v : ℕ) (trail : List Entry) (saved : List (Option Bool)) → HasDistinctVariables trail → AllByRecursion (λ e. IsWithin (length saved) e.lit) trail → 1 ≤ v →
    last_value (cut level trail) (saved_after level trail saved) v ≡ last_value trail saved v
last-jumped level v [] saved distinct within low = refl
last-jumped level v (e ∷ older) saved distinct within low =
    by_level (nat_le e.level level)
    (last-jumped level v older (with_saved e saved) distinct.1 (rw (length-set saved (e.lit.variable - 1) (Some e.lit.positive)) within.1) low)
  where
    by_level : (b : Bool) → last_value (cut level older) (saved_after level older (with_saved e saved)) v ≡ last_value older (with_saved e saved) v →
        last_value (cond b (e ∷ older) (cut level older)) (cond b saved (saved_after level older (with_saved e saved))) v ≡ last_value (e ∷ older) saved v
    by_level true rest = refl
    by_level false rest = rest ∙ last-saved e older saved v distinct.0 within.0 low

pub last_values_stay : (level v : ℕ) (t : TrailState) → IsTrail t → 1 ≤ v → last_value (jumped level t).entries (jumped level t).saved v ≡ last_value t.entries t.saved v
last_values_stay level v t trail low = last-jumped level v t.entries t.saved trail.distinct trail.within low
