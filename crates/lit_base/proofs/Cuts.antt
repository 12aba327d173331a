-- What stands on a trail that is cut to a level.
use Rattle.std.proofs.Common.{◌≡◌, ℕ, zero, suc, ◌==◌, ◌+◌, ◌≤◌, ◌<◌, Bool, true, false, cond, List, [], ◌∷◌, refl, sym, ◌∙◌, subst, arith}
use Rattle.std.specs.Prelude.{Option, Some, None, is_none, nat_le}
use Rattle.std.proofs.lemmas.Bool.{cond_both, cond-true, cond-false, leb-true, leb-false, le-leb, lt-leb, eqb-true}
use Rattle.std.proofs.lemmas.Option.{same_Some}
use Rattle.lit_base.specs.Literal.{Literal}
use Rattle.lit_base.specs.Trail.{sign_of, is_free, level_of, level_now}
use Rattle.lit_base.specs.Backjump.{cut}
use Rattle.lit_base.specs.Rounds.{NamedClause, Propagated, unit_of, conflict_of, with_unit, with_units, round_by, round, is_last, rounds, propagate}
use Rattle.lit_base.specs.Fits.{HasDistinctVariables, IsLeveled, IsNextLevel, IsFitting}
use Rattle.lit_base.specs.declared.trail.Entry.{Entry}
use Rattle.lit_base.specs.declared.name.Name.{Name}
use Rattle.lit_base.proofs.Standing.{Extends, newest_extends}

-- a level is that of the older entries, or one more
next_at_least : (now level : ℕ) (reason : Option Name) → IsNextLevel now level reason → now ≤ level
next_at_least now level None next = omega arith
next_at_least now level (Some name) next = omega arith

next_at_most : (now level : ℕ) (reason : Option Name) → IsNextLevel now level reason → level ≤ now + 1
next_at_most now level None next = omega arith
next_at_most now level (Some name) next = omega arith

at_most_by : (e : Entry) (older : List Entry) (v m : ℕ) (b : Bool) → level_now older ≤ e.level → cond b (Some e.level) (level_of older v) ≡ Some m →
    (level_of older v ≡ Some m → m ≤ level_now older) → m ≤ e.level
at_most_by e older v m true above is later = let here : e.level ≡ m = same_Some e.level m is in omega arith
at_most_by e older v m false above is later = let there : m ≤ level_now older = later is in omega arith

-- no entry is of a level above that of the newest one
pub level_of-at_most : (v m : ℕ) (trail : List Entry) → IsLeveled trail → level_of trail v ≡ Some m → m ≤ level_now trail
level_of-at_most v m [] leveled is = cc
level_of-at_most v m (e ∷ older) leveled is =
    at_most_by e older v m (e.lit.variable == v) (next_at_least (level_now older) e.level e.reason leveled.0) is (level_of-at_most v m older leveled.1)

-- an entry of a higher level leaves
pub cut_leaves : (level : ℕ) (e : Entry) (older : List Entry) → level < e.level → cut level (e ∷ older) ≡ cut level older
cut_leaves level e older high = cond-false (nat_le e.level level) (e ∷ older) (cut level older) (lt-leb e.level level high)

-- a cut trail fits what the trail fits
pub cut_fitting : (look : Name → Option (List Literal)) (level : ℕ) (trail : List Entry) → IsFitting look trail → IsFitting look (cut level trail)
cut_fitting look level [] fitting = fitting
cut_fitting look level (e ∷ older) fitting =
    cond_both (nat_le e.level level) (e ∷ older) (cut level older) (IsFitting look) (λ stays. fitting)
    (λ leaves. cut_fitting look level older (record { distinct = fitting.distinct.1; fits = fitting.fits.1; leveled = fitting.leveled.1 }))

-- the level of a cut trail
pub level_now-cut : (level : ℕ) (trail : List Entry) → IsLeveled trail → level ≤ level_now trail → level_now (cut level trail) ≡ level
level_now-cut level [] leveled low = omega arith
level_now-cut level (e ∷ older) leveled low =
    cond_both (nat_le e.level level) (e ∷ older) (cut level older) (λ t. level_now t ≡ level)
    (λ stays. let most : e.level ≤ level = leb-true e.level level stays in omega arith)
    (λ leaves.
    let above : level < e.level = leb-false e.level level leaves in
    let most : e.level ≤ level_now older + 1 = next_at_most (level_now older) e.level e.reason leveled.0 in
    level_now-cut level older leveled.1 (omega arith))

-- no cut trail is of a higher level than it was cut to
pub level_now-cut-le : (level : ℕ) (trail : List Entry) → level_now (cut level trail) ≤ level
level_now-cut-le level [] = omega arith
level_now-cut-le level (e ∷ older) =
    cond_both (nat_le e.level level) (e ∷ older) (cut level older) (λ t. level_now t ≤ level) (λ stays. leb-true e.level level stays) (λ leaves. level_now-cut-le level older)

-- a cut does not raise the level
pub level_now-cut-mono : (level : ℕ) (trail : List Entry) → IsLeveled trail → level_now (cut level trail) ≤ level_now trail
level_now-cut-mono level [] leveled = omega arith
level_now-cut-mono level (e ∷ older) leveled =
    cond_both (nat_le e.level level) (e ∷ older) (cut level older) (λ t. level_now t ≤ e.level) (λ stays. omega arith)
    (λ leaves. omega (arith, level_now-cut-mono level older leveled.1, next_at_least (level_now older) e.level e.reason leveled.0))

-- a trail that is cut twice
pub cut_cut : (lower upper : ℕ) (trail : List Entry) → lower ≤ upper → cut lower (cut upper trail) ≡ cut lower trail
cut_cut lower upper [] low = refl
cut_cut lower upper (e ∷ older) low =
    cond_both (nat_le e.level upper) (e ∷ older) (cut upper older) (λ t. cut lower t ≡ cut lower (e ∷ older)) (λ stays. refl)
    (λ leaves.
    let above : upper < e.level = leb-false e.level upper leaves in
    cut_cut lower upper older low ∙ sym (cut_leaves lower e older (omega arith)))

-- a trail that has no higher level stays
pub cut_itself : (level : ℕ) (trail : List Entry) → level_now trail ≤ level → cut level trail ≡ trail
cut_itself level [] low = refl
cut_itself level (e ∷ older) low = cond-true (nat_le e.level level) (e ∷ older) (cut level older) (le-leb e.level level low)

below_by : (e : Entry) (older rest : List Entry) (level m v : ℕ) (b : Bool) → level < e.level → m ≤ level → cond b (Some e.level) (level_of older v) ≡ Some m →
    (level_of older v ≡ Some m → sign_of rest v ≡ sign_of older v) → sign_of rest v ≡ cond b (Some e.lit.positive) (sign_of older v)
below_by e older rest level m v true above low is later = let here : e.level ≡ m = same_Some e.level m is in absurd (omega arith)
below_by e older rest level m v false above low is later = later is

-- what stood at the level or below it stands as before
pub sign_of-cut-below : (level m v : ℕ) (trail : List Entry) → HasDistinctVariables trail → IsLeveled trail → level_of trail v ≡ Some m → m ≤ level →
    sign_of (cut level trail) v ≡ sign_of trail v
sign_of-cut-below level m v [] distinct leveled is low = refl
sign_of-cut-below level m v (e ∷ older) distinct leveled is low =
    cond_both (nat_le e.level level) (e ∷ older) (cut level older) (λ t. sign_of t v ≡ sign_of (e ∷ older) v) (λ stays. refl)
    (λ leaves. below_by e older (cut level older) level m v (e.lit.variable == v) (leb-false e.level level leaves) low is
    (λ there. sign_of-cut-below level m v older distinct.1 leveled.1 there low))

-- what stands on a cut trail stood on the whole one
pub cut_extends : (level : ℕ) (trail : List Entry) → HasDistinctVariables trail → Extends (cut level trail) trail
cut_extends level [] distinct = λ v sign found. found
cut_extends level (e ∷ older) distinct =
    cond_both (nat_le e.level level) (e ∷ older) (cut level older) (λ t. Extends t (e ∷ older)) (λ stays v sign found. found)
    (λ leaves v sign found. newest_extends e older distinct.0 v sign (cut_extends level older distinct.1 v sign found))

none_by : (o : Option Bool) → is_none o ≡ true → o ≡ None
none_by None free = refl
none_by (Some sign) free = cc

-- what is free stays free where less stands
pub free_before : (older newer : List Entry) (v : ℕ) → Extends older newer → is_free newer v ≡ true → sign_of older v ≡ None
free_before older newer v extends free = by_sign (sign_of older v) refl
  where
    by_sign : (o : Option Bool) → sign_of older v ≡ o → o ≡ None
    by_sign None is = refl
    by_sign (Some sign) is =
        let found : sign_of newer v ≡ Some sign = extends v sign is in
        let none : sign_of newer v ≡ None = none_by (sign_of newer v) free in
        cc

above_by : (e : Entry) (older rest : List Entry) (m v : ℕ) (b : Bool) → (e.lit.variable == v) ≡ b → is_free older e.lit.variable ≡ true → Extends rest older →
    cond b (Some e.level) (level_of older v) ≡ Some m → (level_of older v ≡ Some m → sign_of rest v ≡ None) → sign_of rest v ≡ None
above_by e older rest m v true here free extends is later = free_before rest older v extends (subst (λ w. is_free older w ≡ true) (eqb-true e.lit.variable v here) free)
above_by e older rest m v false here free extends is later = later is

-- what stood above the level is free
pub sign_of-cut-above : (level m v : ℕ) (trail : List Entry) → HasDistinctVariables trail → IsLeveled trail → level_of trail v ≡ Some m → level < m →
    sign_of (cut level trail) v ≡ None
sign_of-cut-above level m v [] distinct leveled is high = refl
sign_of-cut-above level m v (e ∷ older) distinct leveled is high =
    cond_both (nat_le e.level level) (e ∷ older) (cut level older) (λ t. sign_of t v ≡ None)
    (λ stays.
    let low : e.level ≤ level = leb-true e.level level stays in
    let most : m ≤ e.level = level_of-at_most v m (e ∷ older) leveled is in
    absurd (omega arith))
    (λ leaves. above_by e older (cut level older) m v (e.lit.variable == v) refl distinct.0 (cut_extends level older distinct.1) is
    (λ there. sign_of-cut-above level m v older distinct.1 leveled.1 there high))

-- what each unit of the current level keeps
record KeepsCut (level : ℕ) (before after : List Entry) : Type 0 where
  same_cut : cut level after ≡ cut level before
  same_level : level_now after ≡ level_now before

unit_keeps_cut : (level : ℕ) (before : List Entry) (name : Name) (unit : Option Literal) (trail : List Entry) → level < level_now before → KeepsCut level before trail →
    KeepsCut level before (with_unit name unit trail)
unit_keeps_cut level before name None trail low kept = kept
unit_keeps_cut level before name (Some l) trail low kept =
    let entry : Entry = record { lit = l; level = level_now trail; reason = Some name } in
    cond_both (is_free trail l.variable) (entry ∷ trail) trail (KeepsCut level before)
    (λ free. record { same_cut = cut_leaves level entry trail (omega (arith, kept.same_level)) ∙ kept.same_cut; same_level = kept.same_level })
    (λ taken. kept)

units_keep_cut : (level : ℕ) (before snapshot : List Entry) (clauses : List NamedClause) (trail : List Entry) → level < level_now before → KeepsCut level before trail →
    KeepsCut level before (with_units snapshot clauses trail)
units_keep_cut level before snapshot [] trail low kept = kept
units_keep_cut level before snapshot (c ∷ others) trail low kept =
    units_keep_cut level before snapshot others (with_unit c.name (unit_of snapshot c.lits) trail) low
    (unit_keeps_cut level before c.name (unit_of snapshot c.lits) trail low kept)

round_keeps_cut : (level : ℕ) (before : List Entry) (clauses : List NamedClause) (trail : List Entry) (o : Option Name) → level < level_now before → KeepsCut level before trail →
    KeepsCut level before (round_by clauses trail o).trail
round_keeps_cut level before clauses trail None low kept = units_keep_cut level before trail clauses trail low kept
round_keeps_cut level before clauses trail (Some name) low kept = kept

rounds_keep_cut : (most level : ℕ) (before : List Entry) (clauses : List NamedClause) (trail : List Entry) → level < level_now before → KeepsCut level before trail →
    KeepsCut level before (rounds most clauses trail).trail
rounds_keep_cut zero level before clauses trail low kept = kept
rounds_keep_cut (suc most) level before clauses trail low kept =
    let r = round clauses trail in
    let one = round_keeps_cut level before clauses trail (conflict_of trail clauses) low kept in
    cond_both (is_last trail r) r (rounds most clauses r.trail) (λ (end : Propagated). KeepsCut level before end.trail)
    (λ last. one) (λ more. rounds_keep_cut most level before clauses r.trail low one)

-- propagation adds entries of the current level alone
pub cut_propagated : (variables level : ℕ) (clauses : List NamedClause) (trail : List Entry) → level < level_now trail →
    cut level (propagate variables clauses trail).trail ≡ cut level trail
cut_propagated variables level clauses trail low =
    let kept = rounds_keep_cut (variables + 1) level trail clauses trail low (record { same_cut = refl; same_level = refl }) in
    kept.same_cut
