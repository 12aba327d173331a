-- What the outcome of a run says of its last era.
use Rattle.std.proofs.Common.{◌≡◌, ℕ, ◌+◌, ◌<◌, Bool, true, false, List, [], ◌∷◌, length, refl, ap, sym, ◌∙◌, subst, arith}
use Rattle.std.specs.Prelude.{◌↔◌, Option, Some, None, is_some, option_map, IsSome, IsNone, slice_get, ◌||◌}
use Rattle.std.specs.List.{AllByRecursion, list_all}
use Rattle.std.proofs.lemmas.Bool.{and_parts}
use Rattle.std.proofs.lemmas.Option.{same_Some, none-some}
use Rattle.lit_base.specs.Cnf.{Cnf, IsFormula}
use Rattle.lit_base.specs.Truth.{Satisfies}
use Rattle.lit_base.specs.Trail.{model_of}
use Rattle.lit_base.proofs.FullTrail.{length-model_of}
use Rattle.solo_core.specs.State.{CoreFrame, CoreState}
use Rattle.solo_core.specs.First.{AreInRange}
use Rattle.solo_core.specs.Sheet.{model_at}
use Rattle.solo_core.specs.declared.sheet.End.{End}
use Rattle.solo_core.specs.declared.sheet.End.TheVariants as end
use Rattle.solo_core.specs.declared.sheet.Mail.{Mail}
use Rattle.solo_core.specs.declared.sheet.Sheet.{Sheet}
use Rattle.solo_core.specs.declared.sheet.Settings.{Settings}
use Rattle.solo_core.proofs.Sheets.{sheet_model_exactly, sheet_model_satisfies}
use Rattle.crew.specs.declared.outcome.Verdict.TheVariants.{Sat, Unsat, Unknown}
use Rattle.crew.specs.Era.{Member, stretched, sheet_left, mails_of, sheets_of, is_answer, is_spent, is_over}
use Rattle.crew.specs.Run.{members_at, last_era, last_ends}
use Rattle.crew.specs.Log.{log_of}
use Rattle.crew.specs.Outcome.{winning_sheet, verdict_at, verdict_of, model_in, outcome_of}
use Rattle.crew.proofs.Members.{HaveFrames, HaveNoAnswer, run_counted}
use Rattle.crew.proofs.Mails.{IsMemberSound}
use Rattle.crew.proofs.RunSound.{run_sound, known_at}
use Rattle.crew.proofs.LastEra.{last_over, has_last}
use Rattle.crew.proofs.Winners.{HasWon, has_won, nobody_won, none_of_none, winning_mail, at_split, core_at_split, ends_of, end_at_split, none_before_split}

-- the cores at the start of the last era
abbrev pub last_members : Cnf → Settings → List Member
last_members cnf settings = members_at cnf settings (last_era cnf settings)

-- what is shown where nobody won, and of each winner, holds
pub by_winner : (P : Option Sheet → Type 0) (members : List Member) → (HaveNoAnswer members → P None) → ((sheet : Sheet) → HasWon members sheet → P (Some sheet)) → P (winning_sheet (sheets_of members))
by_winner P members nobody won = by_option (winning_sheet (sheets_of members)) refl
  where
    by_option : (o : Option Sheet) → winning_sheet (sheets_of members) ≡ o → P o
    by_option None is = nobody (nobody_won members is)
    by_option (Some sheet) is = won sheet (has_won members sheet is)

-- == verdicts ==

pub at_sat : (e : End) → verdict_at e ≡ Sat → e ≡ end.Sat
at_sat end.Quota is = cc
at_sat end.Sat is = refl
at_sat end.Unsat is = cc
at_sat end.Spent is = cc

pub at_unsat : (e : End) → verdict_at e ≡ Unsat → e ≡ end.Unsat
at_unsat end.Quota is = cc
at_unsat end.Sat is = cc
at_unsat end.Unsat is = refl
at_unsat end.Spent is = cc

never_unknown : (e : End) → is_answer e ≡ true → verdict_at e ≡ Unknown → ⊥
never_unknown end.Quota answer is = cc
never_unknown end.Sat answer is = cc
never_unknown end.Unsat answer is = cc
never_unknown end.Spent answer is = cc

-- the winner's end is its sheet's
won_end : (members : List Member) (sheet : Sheet) (won : HasWon members sheet) → sheet.mail.end ≡ (stretched won.m).ended
won_end members sheet won = ap (λ (s : Sheet). s.mail.end) won.left

won_answer : (members : List Member) (sheet : Sheet) → HasWon members sheet → is_answer sheet.mail.end ≡ true
won_answer members sheet won = ap is_answer (won_end members sheet won) ∙ won.answer

-- == Unknown ==

-- there is a winner exactly where the verdict isn't Unknown
pub winner_exactly : (cnf : Cnf) (settings : Settings) → AreInRange settings → IsNone (outcome_of cnf settings).winner ↔ ((outcome_of cnf settings).verdict ≡ Unknown)
winner_exactly cnf settings are =
    by_winner (λ o. IsNone (option_map (λ (s : Sheet). s.mail.core) o) ↔ (verdict_of o ≡ Unknown)) (last_members cnf settings)
    (λ none. (λ n. refl, λ v. refl))
    (λ sheet won. (λ n. cc, λ v. absurd (never_unknown sheet.mail.end (won_answer (last_members cnf settings) sheet won) v)))

are_spent : (e : End) → is_spent e ≡ true → e ≡ end.Spent
are_spent end.Quota is = cc
are_spent end.Sat is = cc
are_spent end.Unsat is = cc
are_spent end.Spent is = refl

-- all have spent their limit, by their ends
all_spent : (members : List Member) → list_all (λ (mail : Mail). is_spent mail.end) (mails_of members) ≡ true → AllByRecursion (λ e. e ≡ end.Spent) (ends_of members)
all_spent [] all = tt
all_spent (m ∷ later) all =
    let parts = and_parts (is_spent (stretched m).ended) (list_all (λ (mail : Mail). is_spent mail.end) (mails_of later)) all in
    (are_spent (stretched m).ended parts.0, all_spent later parts.1)

spent_is_none : (members : List Member) → AllByRecursion (λ e. e ≡ end.Spent) (ends_of members) → HaveNoAnswer members
spent_is_none [] all = tt
spent_is_none (m ∷ later) all = (ap is_answer all.0, spent_is_none later all.1)

-- an era that is over without an answer is over since all are spent
spent_at_end : (members : List Member) → HaveNoAnswer members → is_over (mails_of members) ≡ true → list_all (λ (mail : Mail). is_spent mail.end) (mails_of members) ≡ true
spent_at_end members none over =
    subst (λ (o : Option Mail). (is_some o || list_all (λ (mail : Mail). is_spent mail.end) (mails_of members)) ≡ true)
    (winning_mail members ∙ ap (option_map (λ (s : Sheet). s.mail)) (none_of_none members none)) over

pub unknown_where_spent : (cnf : Cnf) (settings : Settings) → AreInRange settings → ((outcome_of cnf settings).verdict ≡ Unknown) ↔ AllByRecursion (λ e. e ≡ end.Spent) (last_ends cnf settings)
unknown_where_spent cnf settings are =
    let members = last_members cnf settings in (
      by_winner (λ o. verdict_of o ≡ Unknown → AllByRecursion (λ e. e ≡ end.Spent) (ends_of members)) members
          (λ none v. all_spent members (spent_at_end members none (last_over cnf settings are)))
          (λ sheet won v. absurd (never_unknown sheet.mail.end (won_answer members sheet won) v)),
      λ all. ap verdict_of (none_of_none members (spent_is_none members all)),
    )

-- == the winner ==

-- what is shown of the winner's place among the cores holds of its number
at_winner : (P : ℕ → Type 0) (cnf : Cnf) (settings : Settings) (w : ℕ) → AreInRange settings → (outcome_of cnf settings).winner ≡ Some w →
    ((sheet : Sheet) (won : HasWon (last_members cnf settings) sheet) → (outcome_of cnf settings).verdict ≡ verdict_at sheet.mail.end → P (length won.front)) → P w
at_winner P cnf settings w are is shown =
    by_winner (λ o. verdict_of (winning_sheet (sheets_of (last_members cnf settings))) ≡ verdict_of o → option_map (λ (s : Sheet). s.mail.core) o ≡ Some w → P w) (last_members cnf settings)
    (λ none v is. absurd (none-some w is))
    (λ sheet won v is.
    let frames = subst (λ ms. HaveFrames cnf settings 0 ms) won.split (run_counted cnf settings (last_era cnf settings) are (has_last cnf settings are)).frames in
    let core_is = core_at_split cnf settings 0 won.front won.m won.back frames in
    let left = ap (λ (s : Sheet). s.mail.core) won.left in
    let same = same_Some sheet.mail.core w is in
    subst P (let e : length won.front ≡ w = omega (arith, core_is, left, same) in e) (shown sheet won v))
    refl is

pub winner_end : (cnf : Cnf) (settings : Settings) (w : ℕ) → AreInRange settings → (outcome_of cnf settings).winner ≡ Some w →
    option_map verdict_at (slice_get (last_ends cnf settings) w) ≡ Some (outcome_of cnf settings).verdict
winner_end cnf settings w are is =
    at_winner (λ k. option_map verdict_at (slice_get (last_ends cnf settings) k) ≡ Some (outcome_of cnf settings).verdict) cnf settings w are is
    (λ sheet won verdict.
    ap (λ ms. option_map verdict_at (slice_get (ends_of ms) (length won.front))) won.split
    ∙ ap (option_map verdict_at) (end_at_split won.front won.m won.back)
    ∙ ap (λ e. Some (verdict_at e)) (sym (won_end (last_members cnf settings) sheet won)) ∙ ap Some (sym verdict))

pub winner_lowest : (cnf : Cnf) (settings : Settings) (w i : ℕ) (e : End) → AreInRange settings → (outcome_of cnf settings).winner ≡ Some w → i < w →
    slice_get (last_ends cnf settings) i ≡ Some e → is_answer e ≡ false
winner_lowest cnf settings w i e are is =
    at_winner (λ k. i < k → slice_get (last_ends cnf settings) i ≡ Some e → is_answer e ≡ false) cnf settings w are is
    (λ sheet won verdict below at.
    none_before_split won.front (won.m ∷ won.back) i e won.none_before below (subst (λ ms. slice_get (ends_of ms) i ≡ Some e) won.split at))

-- == models ==

pub model_exactly : (cnf : Cnf) (settings : Settings) → AreInRange settings → IsSome (outcome_of cnf settings).model ↔ ((outcome_of cnf settings).verdict ≡ Sat)
model_exactly cnf settings are =
    by_winner (λ o. IsSome (model_in o) ↔ (verdict_of o ≡ Sat)) (last_members cnf settings)
    (λ none. (λ some. cc, λ v. cc))
    (λ sheet won.
    subst (λ (s : Sheet). IsSome s.model ↔ (verdict_at s.mail.end ≡ Sat)) (sym won.left)
    (let exactly = sheet_model_exactly won.m.frame (stretched won.m) in (λ some. ap verdict_at (exactly.0 some), λ v. exactly.1 (at_sat (stretched won.m).ended v))))

-- what is shown of the model of each sheet of the last era holds of the run's
at_model : (P : List Bool → Type 0) (cnf : Cnf) (settings : Settings) (model : List Bool) → (outcome_of cnf settings).model ≡ Some model →
    ((sheet : Sheet) (won : HasWon (last_members cnf settings) sheet) → (sheet_left won.m).model ≡ Some model → P model) → P model
at_model P cnf settings model is shown =
    by_winner (λ o. model_in o ≡ Some model → P model) (last_members cnf settings) (λ none is. absurd (none-some model is))
    (λ sheet won is. shown sheet won (ap (λ (s : Sheet). s.model) (sym won.left) ∙ is)) is

values_by : (frame : CoreFrame) (state : CoreState) (e : End) (model : List Bool) → model_at frame state e ≡ Some model → length model ≡ frame.variables
values_by frame state end.Quota model is = absurd (none-some model is)
values_by frame state end.Sat model is =
    sym (ap length (same_Some (model_of frame.variables state.trail) model is)) ∙ length-model_of frame.variables state.trail
values_by frame state end.Unsat model is = absurd (none-some model is)
values_by frame state end.Spent model is = absurd (none-some model is)

-- each core has the formula's variables
have_variables : (cnf : Cnf) (settings : Settings) (core : ℕ) (members : List Member) → HaveFrames cnf settings core members → AllByRecursion (λ (m : Member). m.frame.variables ≡ cnf.variables) members
have_variables cnf settings core [] frames = tt
have_variables cnf settings core (m ∷ later) frames = (ap (λ (f : CoreFrame). f.variables) frames.0, have_variables cnf settings (core + 1) later frames.1)

pub model_values : (cnf : Cnf) (settings : Settings) (model : List Bool) → AreInRange settings → (outcome_of cnf settings).model ≡ Some model → length model ≡ cnf.variables
model_values cnf settings model are is =
    at_model (λ values. length values ≡ cnf.variables) cnf settings model is
    (λ sheet won found.
    let each = have_variables cnf settings 0 (last_members cnf settings) (run_counted cnf settings (last_era cnf settings) are (has_last cnf settings are)).frames in
    values_by won.m.frame (stretched won.m).state (stretched won.m).ended model found
    ∙ at_split (λ (m : Member). m.frame.variables ≡ cnf.variables) won.front won.m won.back (subst (λ ms. AllByRecursion (λ (m : Member). m.frame.variables ≡ cnf.variables) ms) won.split each))

pub model_satisfies : (cnf : Cnf) (settings : Settings) (model : List Bool) → IsFormula cnf → AreInRange settings → (outcome_of cnf settings).model ≡ Some model → Satisfies model cnf
model_satisfies cnf settings model is are found =
    at_model (λ values. Satisfies values cnf) cnf settings model found
    (λ sheet won stands.
    let known = known_at cnf settings (last_era cnf settings) in
    let run = run_sound cnf settings (last_era cnf settings) is are (has_last cnf settings are) in
    let sound = at_split (IsMemberSound cnf known) won.front won.m won.back (subst (λ ms. AllByRecursion (IsMemberSound cnf known) ms) won.split run.era.each) in
    sheet_model_satisfies cnf known won.m.frame won.m.quota won.m.state model sound.sound sound.holds stands)

-- the lines of the log are counted
pub lemmas_counted : (cnf : Cnf) (settings : Settings) → AreInRange settings → (outcome_of cnf settings).lemmas ≡ length (log_of cnf settings)
lemmas_counted cnf settings are = refl
