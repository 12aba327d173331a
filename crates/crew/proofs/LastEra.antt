-- The last era is one of the run and ends it, and no other does. There are no more eras than conflicts that a core may have.
use Rattle.std.proofs.Common.{◌≡◌, ℕ, zero, suc, ◌+◌, ◌-◌, ◌≤◌, ◌<◌, Bool, true, false, ◌&&◌, cond, List, [], ◌∷◌, refl, ap, sym, subst, ◌⊎◌, inl, inr, arith}
use Rattle.std.specs.List.{AllByRecursion, list_all}
use Rattle.std.proofs.lemmas.Bool.{both_ways}
use Rattle.lit_base.specs.Cnf.{Cnf}
use Rattle.solo_core.specs.State.{CoreFrame, CoreState}
use Rattle.solo_core.specs.First.{AreInRange}
use Rattle.solo_core.specs.Laws.{EndsByRule}
use Rattle.solo_core.specs.declared.sheet.End.{End}
use Rattle.solo_core.specs.declared.sheet.End.TheVariants.{Quota, Sat, Unsat, Spent}
use Rattle.solo_core.specs.declared.sheet.Mail.{Mail}
use Rattle.solo_core.specs.declared.sheet.Settings.{Settings}
use Rattle.solo_core.proofs.EndRules.{ends_by_rule, spent_ends}
use Rattle.crew.specs.Era.{Member, stretched, mails_of, is_answer, is_spent, is_over}
use Rattle.crew.specs.Run.{members_at, mails_at, HasEra, eras_before, last_era}
use Rattle.crew.proofs.Members.{HaveFrames, IsCounted, HaveNoAnswer, by_limit, advances_after, goes_on, run_counted}

-- == an era that doesn't end the run leaves a core below its limit ==

below_by : (frame : CoreFrame) (quota : ℕ) (before after : CoreState) (e : End) → is_answer e ≡ false → is_spent e ≡ false → EndsByRule frame quota before after e → after.conflicts < frame.limit
below_by frame quota before after Quota other left rule = rule.1
below_by frame quota before after Sat other left rule = cc
below_by frame quota before after Unsat other left rule = cc
below_by frame quota before after Spent other left rule = cc

below_after : (past : ℕ) (m : Member) → IsCounted past m → is_answer (stretched m).ended ≡ false → is_spent (stretched m).ended ≡ false → (stretched m).state.conflicts < m.frame.limit
below_after past m counted other left =
    by_limit ((stretched m).state.conflicts < m.frame.limit) m counted.limit
    (λ spent. absurd (both_ways (is_spent (stretched m).ended) left (ap is_spent (spent_ends m.frame m.quota m.state spent))))
    (λ below. below_by m.frame m.quota m.state (stretched m).state (stretched m).ended other left (ends_by_rule m.frame m.quota m.state below))

some_below : (cnf : Cnf) (settings : Settings) (past core : ℕ) (members : List Member) → HaveFrames cnf settings core members → AllByRecursion (IsCounted past) members → HaveNoAnswer members →
    list_all (λ (mail : Mail). is_spent mail.end) (mails_of members) ≡ false → past + 1 < settings.limit
some_below cnf settings past core [] frames counted none left = cc
some_below cnf settings past core (m ∷ later) frames counted none left =
    by_end (is_spent (stretched m).ended) refl left (some_below cnf settings past (core + 1) later frames.1 counted.1 none.1)
  where
    by_end : (b : Bool) → is_spent (stretched m).ended ≡ b → (b && list_all (λ (mail : Mail). is_spent mail.end) (mails_of later)) ≡ false →
        (list_all (λ (mail : Mail). is_spent mail.end) (mails_of later) ≡ false → past + 1 < settings.limit) → past + 1 < settings.limit
    by_end true is all further = further all
    by_end false is all further =
        let below = below_after past m counted.0 none.0 is in
        omega (arith, below, advances_after past m counted.0 none.0 below, ap (λ (f : CoreFrame). f.limit) frames.0)

-- so an era that goes on isn't the last that the limit allows
pub more_below : (cnf : Cnf) (settings : Settings) (past : ℕ) → AreInRange settings → HasEra cnf settings past → is_over (mails_at cnf settings past) ≡ false → past + 1 < settings.limit
more_below cnf settings past are has on =
    let counted = run_counted cnf settings past are has in
    let members = members_at cnf settings past in
    let left = goes_on members on in
    some_below cnf settings past 0 members counted.frames counted.each left.0 left.1

-- == the last era ==

-- an era of the run that ends it, within the limit
pub record IsLast (cnf : Cnf) (settings : Settings) (past : ℕ) : Type 0 where
  pub has : HasEra cnf settings past
  pub over : is_over (mails_at cnf settings past) ≡ true
  pub within : past < settings.limit

-- the run has an era more where one goes on
pub has_more : (cnf : Cnf) (settings : Settings) (past : ℕ) → HasEra cnf settings past → is_over (mails_at cnf settings past) ≡ false → HasEra cnf settings (past + 1)
has_more cnf settings past has on q below = by_place (let split : (q < past) ⊎ (q ≡ past) = grind (arith, below) in split)
  where
    by_place : (q < past) ⊎ (q ≡ past) → is_over (mails_at cnf settings q) ≡ false
    by_place (inl before) = has q before
    by_place (inr same) = subst (λ p. is_over (mails_at cnf settings p) ≡ false) (sym same) on

found_last : (cnf : Cnf) (settings : Settings) (most past : ℕ) → AreInRange settings → HasEra cnf settings past → past + most + 1 ≡ settings.limit →
    IsLast cnf settings (eras_before (λ q. is_over (mails_at cnf settings q)) most past)
found_last cnf settings zero past are has enough = by_end (is_over (mails_at cnf settings past)) refl
  where
    by_end : (b : Bool) → is_over (mails_at cnf settings past) ≡ b → IsLast cnf settings past
    by_end true over = record { has = has; over = over; within = omega (arith, enough) }
    by_end false on = absurd (omega (arith, enough, more_below cnf settings past are has on))
found_last cnf settings (suc most) past are has enough = by_end (is_over (mails_at cnf settings past)) refl (λ on. found_last cnf settings most (past + 1) are (has_more cnf settings past has on) (omega (arith, enough)))
  where
    later : ℕ
    later = eras_before (λ q. is_over (mails_at cnf settings q)) most (past + 1)

    by_end : (b : Bool) → is_over (mails_at cnf settings past) ≡ b → (is_over (mails_at cnf settings past) ≡ false → IsLast cnf settings later) → IsLast cnf settings (cond (is_over (mails_at cnf settings past)) past later)
    by_end true over further =
        subst (λ q. IsLast cnf settings q) (sym (ap (λ b. cond b past later) over)) (record { has = has; over = over; within = omega (arith, enough) })
    by_end false on further = subst (λ q. IsLast cnf settings q) (sym (ap (λ b. cond b past later) on)) (further on)

pub last_is : (cnf : Cnf) (settings : Settings) → AreInRange settings → IsLast cnf settings (last_era cnf settings)
last_is cnf settings are = found_last cnf settings (settings.limit - 1) 0 are (λ q below. absurd (omega (arith, below))) (omega (arith, are.some_limit))

-- no other era of the run ends it, and none comes after it
pub has_within : (cnf : Cnf) (settings : Settings) (past : ℕ) → AreInRange settings → HasEra cnf settings past → past ≤ last_era cnf settings
has_within cnf settings past are has = by_place (let split : (last_era cnf settings < past) ⊎ (past ≤ last_era cnf settings) = grind arith in split)
  where
    by_place : (last_era cnf settings < past) ⊎ (past ≤ last_era cnf settings) → past ≤ last_era cnf settings
    by_place (inl before) = absurd (both_ways (is_over (mails_at cnf settings (last_era cnf settings))) (has (last_era cnf settings) before) (last_is cnf settings are).over)
    by_place (inr within) = within

pub last_only : (cnf : Cnf) (settings : Settings) (past : ℕ) → AreInRange settings → HasEra cnf settings past → is_over (mails_at cnf settings past) ≡ true → past ≡ last_era cnf settings
last_only cnf settings past are has over = by_place (let split : (past < last_era cnf settings) ⊎ (last_era cnf settings ≤ past) = grind arith in split)
  where
    by_place : (past < last_era cnf settings) ⊎ (last_era cnf settings ≤ past) → past ≡ last_era cnf settings
    by_place (inl before) = absurd (both_ways (is_over (mails_at cnf settings past)) ((last_is cnf settings are).has past before) over)
    by_place (inr past_it) = omega (arith, past_it, has_within cnf settings past are has)

-- the fields of the last era
pub has_last : (cnf : Cnf) (settings : Settings) → AreInRange settings → HasEra cnf settings (last_era cnf settings)
has_last cnf settings are = (last_is cnf settings are).has

pub last_over : (cnf : Cnf) (settings : Settings) → AreInRange settings → is_over (mails_at cnf settings (last_era cnf settings)) ≡ true
last_over cnf settings are = (last_is cnf settings are).over

pub last_within : (cnf : Cnf) (settings : Settings) → AreInRange settings → last_era cnf settings < settings.limit
last_within cnf settings are = (last_is cnf settings are).within
