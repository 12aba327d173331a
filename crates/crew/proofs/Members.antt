-- What a core has counted after so many eras, and how its stretch ends.
use Rattle.std.proofs.Common.{◌≡◌, ℕ, zero, suc, ◌+◌, ◌*◌, ◌/◌, ◌-◌, ◌≤◌, ◌<◌, ◌==◌, Bool, true, false, cond, List, [], ◌∷◌, refl, ap, ◌∙◌, subst, ◌⊎◌, inl, inr, arith}
use Rattle.std.specs.Prelude.{⊤, ◌||◌, Some, is_some, map}
use Rattle.std.specs.List.{AllByRecursion, list_all}
use Rattle.std.proofs.lemmas.Bool.{cond_both}
use Rattle.lit_base.specs.Cnf.{Cnf}
use Rattle.lit_base.specs.Trail.{level_now}
use Rattle.lit_base.specs.Held.{volume_of}
use Rattle.period_rule.specs.Period.{next_period}
use Rattle.solo_core.specs.State.{CoreFrame, CoreState}
use Rattle.solo_core.specs.First.{AreInRange, frame_of}
use Rattle.solo_core.specs.Period.{BeginsPeriod}
use Rattle.solo_core.specs.Laws.{EndsByRule}
use Rattle.solo_core.specs.declared.sheet.End.{End}
use Rattle.solo_core.specs.declared.sheet.End.TheVariants.{Quota, Sat, Unsat, Spent}
use Rattle.solo_core.specs.declared.sheet.Mail.{Mail}
use Rattle.solo_core.specs.declared.sheet.Settings.{Settings}
use Rattle.solo_core.proofs.EndRules.{ends_by_rule, conflicts_counted, spent_stays}
use Rattle.crew.specs.Era.{Member, stretched, mail_at, mails_of, is_answer, is_spent, winner_of, is_over, largest_volume, next_member, after_era}
use Rattle.crew.specs.Run.{members_from, members_at, HasEra}

-- the cores from this one on, each with the frame of its number
abbrev pub HaveFrames : Cnf → Settings → ℕ → List Member → Type 0
HaveFrames cnf settings core [] = ⊤
HaveFrames cnf settings core (m ∷ later) = (m.frame ≡ frame_of cnf settings core) × HaveFrames cnf settings (core + 1) later

-- what a core has counted before the era before which so many are past
pub record IsCounted (past : ℕ) (m : Member) : Type 0 where
  pub period : m.state.period ≡ past + 1
  pub begins : BeginsPeriod m.state
  pub limit : m.state.conflicts ≤ m.frame.limit
  pub quota : 1 ≤ m.quota
  -- unless its limit is spent it had a conflict in each era
  pub advances : m.state.conflicts < m.frame.limit → past ≤ m.state.conflicts

-- == at the first era ==

pub first_frames : (cnf : Cnf) (settings : Settings) (core more : ℕ) → HaveFrames cnf settings core (members_from cnf settings core more)
first_frames cnf settings core zero = tt
first_frames cnf settings core (suc more) = (refl, first_frames cnf settings (core + 1) more)

pub first_counted : (cnf : Cnf) (settings : Settings) (core more : ℕ) → AreInRange settings → AllByRecursion (IsCounted 0) (members_from cnf settings core more)
first_counted cnf settings core zero are = tt
first_counted cnf settings core (suc more) are =
    (record { period = refl; begins = (refl, refl); limit = omega arith; quota = are.some_period; advances = λ below. omega arith }, first_counted cnf settings (core + 1) more are)

-- == a stretch ==

limit_by : (frame : CoreFrame) (quota : ℕ) (before after : CoreState) (e : End) → EndsByRule frame quota before after e → after.conflicts ≤ frame.limit
limit_by frame quota before after Quota rule = omega (arith, rule.1)
limit_by frame quota before after Sat rule = omega (arith, rule.1)
limit_by frame quota before after Unsat rule = rule.1
limit_by frame quota before after Spent rule = omega (arith, rule.0)

-- what holds of a stretch, by whether the limit was spent before
pub by_limit : (P : Type 0) (m : Member) → m.state.conflicts ≤ m.frame.limit → (m.state.conflicts ≡ m.frame.limit → P) → (m.state.conflicts < m.frame.limit → P) → P
by_limit P m limit spent left = by_split (let split : (m.state.conflicts ≡ m.frame.limit) ⊎ (m.state.conflicts < m.frame.limit) = grind (arith, limit) in split)
  where
    by_split : (m.state.conflicts ≡ m.frame.limit) ⊎ (m.state.conflicts < m.frame.limit) → P
    by_split (inl is) = spent is
    by_split (inr is) = left is

pub limit_after : (m : Member) → m.state.conflicts ≤ m.frame.limit → (stretched m).state.conflicts ≤ m.frame.limit
limit_after m limit =
    by_limit ((stretched m).state.conflicts ≤ m.frame.limit) m limit
    (λ spent. let same = ap (λ (k : CoreState). k.conflicts) (spent_stays m.frame m.quota m.state spent) in omega (arith, same, spent))
    (λ left. limit_by m.frame m.quota m.state (stretched m).state (stretched m).ended (ends_by_rule m.frame m.quota m.state left))

root_by : (frame : CoreFrame) (quota : ℕ) (before after : CoreState) (e : End) → is_answer e ≡ false → EndsByRule frame quota before after e → level_now after.trail ≡ 0
root_by frame quota before after Quota other rule = rule.2
root_by frame quota before after Sat other rule = cc
root_by frame quota before after Unsat other rule = cc
root_by frame quota before after Spent other rule = rule.2

-- from level 0 a stretch without an answer comes back to level 0
pub root_after : (m : Member) → m.state.conflicts ≤ m.frame.limit → level_now m.state.trail ≡ 0 → is_answer (stretched m).ended ≡ false → level_now (stretched m).state.trail ≡ 0
root_after m limit root other =
    by_limit (level_now (stretched m).state.trail ≡ 0) m limit
    (λ spent. ap (λ (k : CoreState). level_now k.trail) (spent_stays m.frame m.quota m.state spent) ∙ root)
    (λ left. root_by m.frame m.quota m.state (stretched m).state (stretched m).ended other (ends_by_rule m.frame m.quota m.state left))

-- a stretch without an answer adds a conflict, or comes to the limit
more_by : (frame : CoreFrame) (quota : ℕ) (before after : CoreState) (e : End) → is_answer e ≡ false → 1 ≤ quota → EndsByRule frame quota before after e → after.conflicts < frame.limit →
    before.conflicts + 1 ≤ after.conflicts
more_by frame quota before after Quota other some rule below = omega (arith, rule.0, some)
more_by frame quota before after Sat other some rule below = cc
more_by frame quota before after Unsat other some rule below = cc
more_by frame quota before after Spent other some rule below = absurd (omega (arith, rule.0, below))

pub advances_after : (past : ℕ) (m : Member) → IsCounted past m → is_answer (stretched m).ended ≡ false → (stretched m).state.conflicts < m.frame.limit → past + 1 ≤ (stretched m).state.conflicts
advances_after past m counted other below =
    by_limit (past + 1 ≤ (stretched m).state.conflicts) m counted.limit
    (λ spent. let same = ap (λ (k : CoreState). k.conflicts) (spent_stays m.frame m.quota m.state spent) in absurd (omega (arith, same, spent, below)))
    (λ left. omega (
      arith,
      more_by m.frame m.quota m.state (stretched m).state (stretched m).ended other counted.quota (ends_by_rule m.frame m.quota m.state left) below,
      counted.advances left,
    ))

-- == the next era ==

-- a period is never shorter than the first
pub next_some : (base volume largest : ℕ) → 1 ≤ base → 1 ≤ next_period base volume largest
next_some base volume largest some =
    cond_both (largest == 0) base (base + base * (largest - volume) / largest) (λ n. 1 ≤ n) (λ none. some) (λ held. omega (arith, some))

one_counted : (past base : ℕ) (mails : List Mail) (m : Member) → 1 ≤ base → IsCounted past m → is_answer (stretched m).ended ≡ false → IsCounted (past + 1) (next_member base mails m)
one_counted past base mails m some counted other =
    let period = (conflicts_counted m.frame m.quota m.state).period in
    record {
      period = omega (arith, period, counted.period);
      begins = (refl, refl);
      limit = limit_after m counted.limit;
      quota = next_some base (volume_of (stretched m).state.clauses) (largest_volume mails) some;
      advances = advances_after past m counted other;
    }

-- what holds of each core
abbrev pub HaveNoAnswer : List Member → Type 0
HaveNoAnswer members = AllByRecursion (λ m. is_answer (stretched m).ended ≡ false) members

pub next_frames : (cnf : Cnf) (settings : Settings) (core base : ℕ) (mails : List Mail) (members : List Member) → HaveFrames cnf settings core members → HaveFrames cnf settings core (map (next_member base mails) members)
next_frames cnf settings core base mails [] frames = tt
next_frames cnf settings core base mails (m ∷ later) frames = (frames.0, next_frames cnf settings (core + 1) base mails later frames.1)

pub next_counted : (past base : ℕ) (mails : List Mail) (members : List Member) → 1 ≤ base → AllByRecursion (IsCounted past) members → HaveNoAnswer members →
    AllByRecursion (IsCounted (past + 1)) (map (next_member base mails) members)
next_counted past base mails [] some counted none = tt
next_counted past base mails (m ∷ later) some counted none = (one_counted past base mails m some counted.0 none.0, next_counted past base mails later some counted.1 none.1)

-- == an era that doesn't end the run ==

not_either : (a b : Bool) → (a || b) ≡ false → (a ≡ false) × (b ≡ false)
not_either true b is = cc
not_either false b is = (refl, is)

pub none_has_won : (members : List Member) → is_some (winner_of (mails_of members)) ≡ false → HaveNoAnswer members
none_has_won [] none = tt
none_has_won (m ∷ later) none = by_end (is_answer (stretched m).ended) refl none (none_has_won later)
  where
    by_end : (b : Bool) → is_answer (stretched m).ended ≡ b → is_some (cond b (Some (mail_at m)) (winner_of (mails_of later))) ≡ false →
        (is_some (winner_of (mails_of later)) ≡ false → HaveNoAnswer later) → HaveNoAnswer (m ∷ later)
    by_end true is none further = cc
    by_end false is none further = (is, further none)

-- no core has an answer, and not all have spent their limit
pub goes_on : (members : List Member) → is_over (mails_of members) ≡ false → HaveNoAnswer members × (list_all (λ (mail : Mail). is_spent mail.end) (mails_of members) ≡ false)
goes_on members on =
    let parts = not_either (is_some (winner_of (mails_of members))) (list_all (λ (mail : Mail). is_spent mail.end) (mails_of members)) on in
    (none_has_won members parts.0, parts.1)

-- == all eras of a run ==

pub record AreCounted (cnf : Cnf) (settings : Settings) (past : ℕ) (members : List Member) : Type 0 where
  pub frames : HaveFrames cnf settings 0 members
  pub each : AllByRecursion (IsCounted past) members

pub run_counted : (cnf : Cnf) (settings : Settings) (past : ℕ) → AreInRange settings → HasEra cnf settings past → AreCounted cnf settings past (members_at cnf settings past)
run_counted cnf settings zero are has =
    record { frames = first_frames cnf settings 0 settings.cores; each = first_counted cnf settings 0 settings.cores are }
run_counted cnf settings (suc past) are has =
    let before = run_counted cnf settings past are (λ q below. has q (omega (arith, below))) in
    let members = members_at cnf settings past in
    let none = (goes_on members (has past (omega arith))).0 in
    let same : past + 1 ≡ suc past = omega arith in
    record {
      frames = next_frames cnf settings 0 settings.period (mails_of members) members before.frames;
      each = subst (λ p. AllByRecursion (IsCounted p) (after_era settings.period members)) same
          (next_counted past settings.period (mails_of members) members are.some_period before.each none);
    }
