-- The rows of a run's trace: what they ask of the code that makes them, and what each of them tells.
use Rattle.std.proofs.Common.{◌≡◌, ℕ, zero, suc, ◌+◌, ◌*◌, ◌≤◌, ◌<◌, ◌^◌, List, [], ◌∷◌, ◌++◌, length, get_or, length-append, refl, ap, sym, ◌∙◌, subst, All, ◌⊎◌, inl, inr, arith}
use Rattle.std.specs.Prelude.{Some, slice_get}
use Rattle.std.specs.List.{AllByRecursion}
use Rattle.std.specs.Option.{IsSomeAnd}
use Rattle.std.proofs.Math.Nat.{suc-mul}
use Rattle.std.proofs.lemmas.Bool.{cond-true, cond-false}
use Rattle.std.proofs.lemmas.List.{length-map}
use Rattle.std.proofs.lemmas.List.Elements.{All-from_recursion}
use Rattle.std.proofs.lemmas.Option.{same_Some, none-some, slice_get_within}
use Rattle.lit_base.specs.Cnf.{Cnf}
use Rattle.period_rule.specs.Period.{next_period}
use Rattle.solo_core.specs.State.{CoreFrame}
use Rattle.solo_core.specs.First.{AreInRange}
use Rattle.solo_core.specs.declared.sheet.Sheet.{Sheet}
use Rattle.solo_core.specs.declared.sheet.Settings.{Settings}
use Rattle.solo_core.proofs.EndRules.{conflicts_counted}
use Rattle.crew.specs.declared.trace.TraceRow.{TraceRow}
use Rattle.crew.specs.Era.{Member, mail_at, mails_in, sheets_of, is_over, largest_volume, next_member}
use Rattle.crew.specs.Run.{members_at, mails_at, sheets_at, HasEra, last_era}
use Rattle.crew.specs.Trace.{next_of, row_of, rows_of, trace_before}
use Rattle.crew.specs.Outcome.{outcome_of}
use Rattle.crew.specs.Laws.{row_in_trace, Tells}
use Rattle.crew.proofs.Members.{HaveFrames, IsCounted, limit_after, run_counted}
use Rattle.crew.proofs.Mails.{posts_few}
use Rattle.crew.proofs.RunSound.{length-members}
use Rattle.crew.proofs.LastEra.{has_last, has_within, last_over}
use Rattle.crew.proofs.LogSize.{left_by}
use Rattle.crew.proofs.InTurn.{all_at, member_at, frame_at, mapped_at, next_at}

-- == what the code asks ==

-- no core is fuller than the fullest
pub none_fuller : (sheets : List Sheet) (i : ℕ) (sheet : Sheet) → i < length sheets → sheet ≡ get_or sheets i sheet → sheet.mail.volume ≤ largest_volume (mails_in sheets)
none_fuller [] i sheet within is = absurd (omega (arith, within))
none_fuller (s ∷ later) zero sheet within is = let same = ap (λ (t : Sheet). t.mail.volume) is in grind (arith, same)
none_fuller (s ∷ later) (suc i) sheet within is = let further = none_fuller later i sheet (omega (arith, within)) is in grind (arith, further)

-- no core posts more than it may have conflicts
few_posts : (cnf : Cnf) (settings : Settings) (past core : ℕ) (members : List Member) → AreInRange settings → HaveFrames cnf settings core members → AllByRecursion (IsCounted past) members →
    AllByRecursion (λ (sheet : Sheet). length sheet.mail.posted < 2 ^ 32) (sheets_of members)
few_posts cnf settings past core [] are frames counted = tt
few_posts cnf settings past core (m ∷ later) are frames counted = (
  omega (arith, posts_few m, left_by past m counted.0, limit_after m counted.0.limit, ap (λ (f : CoreFrame). f.limit) frames.0, are.few_limit),
  few_posts cnf settings past (core + 1) later are frames.1 counted.1,
)

pub posts_fit : (cnf : Cnf) (settings : Settings) (past : ℕ) (sheets : List Sheet) → AreInRange settings → HasEra cnf settings past → sheets ≡ sheets_at cnf settings past →
    All (λ (sheet : Sheet). length sheet.mail.posted < 2 ^ 32) sheets
posts_fit cnf settings past sheets are has left =
    let counted = run_counted cnf settings past are has in
    subst (λ ss. All (λ (sheet : Sheet). length sheet.mail.posted < 2 ^ 32) ss) (sym left)
    (All-from_recursion (λ (sheet : Sheet). length sheet.mail.posted < 2 ^ 32) (sheets_at cnf settings past)
    (few_posts cnf settings past 0 (members_at cnf settings past) are counted.frames counted.each))

-- == places ==

slice_front : {X : Type 0} (xs ys : List X) (i : ℕ) (x : X) → slice_get xs i ≡ Some x → slice_get (xs ++ ys) i ≡ Some x
slice_front [] ys i x at = absurd (none-some x at)
slice_front (y ∷ xs) ys zero x at = at
slice_front (y ∷ xs) ys (suc i) x at = slice_front xs ys i x at

slice_behind : {X : Type 0} (xs ys : List X) (n i : ℕ) → length xs ≡ n → slice_get (xs ++ ys) (n + i) ≡ slice_get ys i
slice_behind [] ys n i is = ap (slice_get ys) (let e : n + i ≡ i = omega (arith, is) in e)
slice_behind (x ∷ xs) ys zero i is = absurd (omega (arith, is))
slice_behind (x ∷ xs) ys (suc n) i is =
    ap (slice_get (x ∷ (xs ++ ys))) (let e : suc n + i ≡ suc (n + i) = omega arith in e) ∙ slice_behind xs ys n i (omega (arith, is))

length-trace : (cnf : Cnf) (settings : Settings) (past : ℕ) → length (trace_before cnf settings past) ≡ past * settings.cores
length-trace cnf settings zero = omega arith
length-trace cnf settings (suc past) =
    omega (
      arith,
      length-append (trace_before cnf settings past) (rows_of settings.period (mails_at cnf settings past)),
      length-trace cnf settings past,
      length-map (mails_at cnf settings past) (row_of settings.period (mails_at cnf settings past)),
      length-map (members_at cnf settings past) mail_at,
      length-members cnf settings past,
      suc-mul past settings.cores,
    )

-- the row of a core in an era
abbrev pub row_made : Cnf → Settings → ℕ → Member → TraceRow
row_made cnf settings past m = row_of settings.period (mails_at cnf settings past) (mail_at m)

-- stands at its place once the era is past
row_before : (cnf : Cnf) (settings : Settings) (eras past i : ℕ) (m : Member) → past < eras → slice_get (members_at cnf settings past) i ≡ Some m →
    slice_get (trace_before cnf settings eras) (past * settings.cores + i) ≡ Some (row_made cnf settings past m)
row_before cnf settings zero past i m below at = absurd (omega (arith, below))
row_before cnf settings (suc eras) past i m below at =
    by_place (let split : (past < eras) ⊎ (past ≡ eras) = grind (arith, below) in split) (λ before. row_before cnf settings eras past i m before at)
  where
    here : slice_get (rows_of settings.period (mails_at cnf settings past)) i ≡ Some (row_made cnf settings past m)
    here = mapped_at (row_of settings.period (mails_at cnf settings past)) (mails_at cnf settings past) i (mail_at m) (mapped_at mail_at (members_at cnf settings past) i m at)

    by_place : (past < eras) ⊎ (past ≡ eras) → (past < eras → slice_get (trace_before cnf settings eras) (past * settings.cores + i) ≡ Some (row_made cnf settings past m)) →
        slice_get (trace_before cnf settings (suc eras)) (past * settings.cores + i) ≡ Some (row_made cnf settings past m)
    by_place (inl before) earlier =
        slice_front (trace_before cnf settings eras) (rows_of settings.period (mails_at cnf settings eras)) (past * settings.cores + i) (row_made cnf settings past m) (earlier before)
    by_place (inr same) earlier =
        subst (λ n. slice_get (trace_before cnf settings (suc n)) (past * settings.cores + i) ≡ Some (row_made cnf settings past m)) same
        (slice_behind (trace_before cnf settings past) (rows_of settings.period (mails_at cnf settings past)) (past * settings.cores) i (length-trace cnf settings past) ∙ here)

-- each era of the run has its rows in the trace
row_there : (cnf : Cnf) (settings : Settings) (past i : ℕ) (m : Member) → AreInRange settings → HasEra cnf settings past → slice_get (members_at cnf settings past) i ≡ Some m →
    row_in_trace cnf settings past i ≡ Some (row_made cnf settings past m)
row_there cnf settings past i m are has at =
    row_before cnf settings (suc (last_era cnf settings)) past i m (omega (arith, has_within cnf settings past are has)) at

-- what holds of it holds of the row at its place
row_has : (P : TraceRow → Type 0) (cnf : Cnf) (settings : Settings) (past i : ℕ) (m : Member) → AreInRange settings → HasEra cnf settings past → slice_get (members_at cnf settings past) i ≡ Some m →
    P (row_made cnf settings past m) → IsSomeAnd (row_in_trace cnf settings past i) P
row_has P cnf settings past i m are has at holds = subst (λ o. IsSomeAnd o P) (sym (row_there cnf settings past i m are has at)) holds

-- a place of an era is that of a core
below_cores : (cnf : Cnf) (settings : Settings) (past i : ℕ) (m : Member) → slice_get (members_at cnf settings past) i ≡ Some m → i < settings.cores
below_cores cnf settings past i m at = omega (arith, slice_get_within (members_at cnf settings past) i m at, length-members cnf settings past)

-- == what the rows tell ==

pub rows_counted : (cnf : Cnf) (settings : Settings) → AreInRange settings → length (outcome_of cnf settings).trace ≡ (outcome_of cnf settings).eras * settings.cores
rows_counted cnf settings are =
    length-trace cnf settings (suc (last_era cnf settings))
    ∙ ap (λ n. n * settings.cores) (let e : suc (last_era cnf settings) ≡ last_era cnf settings + 1 = omega arith in e)

pub rows_tell : (cnf : Cnf) (settings : Settings) (past i : ℕ) (m : Member) → AreInRange settings → HasEra cnf settings past → slice_get (members_at cnf settings past) i ≡ Some m →
    IsSomeAnd (row_in_trace cnf settings past i) (Tells past i m)
rows_tell cnf settings past i m are has at =
    let members = members_at cnf settings past in
    let counted = run_counted cnf settings past are has in
    let own = all_at (IsCounted past) members i m counted.each at in
    let counts = conflicts_counted m.frame m.quota m.state in
    row_has (Tells past i m) cnf settings past i m are has at (record {
      period = counts.period ∙ own.period;
      core = let core_is = ap (λ (f : CoreFrame). f.core) (frame_at cnf settings 0 i members m counted.frames at) in omega (arith, core_is);
      conflicts = omega (arith, counts.in_period, own.begins.0);
      volume = refl;
      posted = refl;
    })

pub next_told : (cnf : Cnf) (settings : Settings) (past i : ℕ) (n : Member) → AreInRange settings → HasEra cnf settings (past + 1) → slice_get (members_at cnf settings (past + 1)) i ≡ Some n →
    IsSomeAnd (row_in_trace cnf settings past i) (λ row. (row.next ≡ n.quota) × (1 ≤ row.next))
next_told cnf settings past i n are has at =
    row_has (λ row. (row.next ≡ n.quota) × (1 ≤ row.next)) cnf settings past i m are earlier found.1
    (quota, subst (λ k. 1 ≤ k) (sym quota) (all_at (IsCounted (past + 1)) (members_at cnf settings (past + 1)) i n (run_counted cnf settings (past + 1) are has).each at).quota)
  where
    earlier : HasEra cnf settings past
    earlier q below = has q (omega (arith, below))

    found : (m : Member) × (slice_get (members_at cnf settings past) i ≡ Some m)
    found = member_at cnf settings past i (below_cores cnf settings (past + 1) i n at)

    m : Member
    m = found.0

    -- the core of that place in the next era
    same : n ≡ next_member settings.period (mails_at cnf settings past) m
    same =
        sym (same_Some (next_member settings.period (mails_at cnf settings past) m) n
        (sym (mapped_at (next_member settings.period (mails_at cnf settings past)) (members_at cnf settings past) i m found.1)
        ∙ ap (λ members. slice_get members i) (sym (next_at cnf settings past)) ∙ at))

    quota : next_of settings.period (mails_at cnf settings past) (mail_at m) ≡ n.quota
    quota =
        cond-false (is_over (mails_at cnf settings past)) 0 (next_period settings.period (mail_at m).volume (largest_volume (mails_at cnf settings past))) (has past (omega arith))
        ∙ ap (λ (o : Member). o.quota) (sym same)

pub last_told : (cnf : Cnf) (settings : Settings) (i : ℕ) → AreInRange settings → i < settings.cores → IsSomeAnd (row_in_trace cnf settings (last_era cnf settings) i) (λ row. row.next ≡ 0)
last_told cnf settings i are below =
    let last = last_era cnf settings in
    let found = member_at cnf settings last i below in
    row_has (λ row. row.next ≡ 0) cnf settings last i found.0 are (has_last cnf settings are) found.1
    (cond-true (is_over (mails_at cnf settings last)) 0 (next_period settings.period (mail_at found.0).volume (largest_volume (mails_at cnf settings last))) (last_over cnf settings are))
