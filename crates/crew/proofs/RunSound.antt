-- What holds of a run at each of its eras: all that its cores know follows from the formula, and its log is one.
use Rattle.std.proofs.Common.{◌≡◌, ℕ, zero, suc, ◌+◌, cond, List, [], ◌∷◌, ◌++◌, length, append-nil, length-append, refl, ap, sym, ◌∙◌, subst, arith}
use Rattle.std.specs.Prelude.{Option, None, map}
use Rattle.std.specs.List.{AllByRecursion}
use Rattle.std.proofs.lemmas.List.{length-map}
use Rattle.lit_base.specs.Cnf.{Cnf, IsFormula}
use Rattle.lit_base.specs.Rounds.{NamedClause, originals}
use Rattle.solo_core.specs.First.{AreInRange}
use Rattle.solo_core.specs.Soundness.{HasLiterals}
use Rattle.solo_core.specs.declared.lemma.Lemma.{Lemma}
use Rattle.solo_core.specs.declared.sheet.Sheet.{Sheet}
use Rattle.solo_core.specs.declared.sheet.Settings.{Settings}
use Rattle.solo_core.proofs.FirstState.{first_sound, first_holds}
use Rattle.solo_core.proofs.StretchSound.{stretch_sound}
use Rattle.crew.specs.Era.{Member, stretched, sheet_left, sheets_of, after_era}
use Rattle.crew.specs.Run.{members_from, members_at, sheets_at, HasEra}
use Rattle.crew.specs.Log.{parts_of, stands, standing_parts, parts_before, joined, all_joined}
use Rattle.crew.proofs.Members.{AreCounted, HaveNoAnswer, goes_on, run_counted}
use Rattle.crew.proofs.Mails.{IsMemberSound}
use Rattle.crew.proofs.EraKept.{IsEraSound, parts_are, not_refuted, era_kept}
use Rattle.crew.proofs.EraLog.{known_after, known_after-push, all_joined-push, IsLog, no_log, log_more}

-- == how many there are ==

pub length-members_from : (cnf : Cnf) (settings : Settings) (core more : ℕ) → length (members_from cnf settings core more) ≡ more
length-members_from cnf settings core zero = refl
length-members_from cnf settings core (suc more) = ap suc (length-members_from cnf settings (core + 1) more)

pub length-members : (cnf : Cnf) (settings : Settings) (past : ℕ) → length (members_at cnf settings past) ≡ settings.cores
length-members cnf settings zero = length-members_from cnf settings 0 settings.cores
length-members cnf settings (suc past) = length-map (members_at cnf settings past) _ ∙ length-members cnf settings past

-- each era has a part of each core
pub length-era : (cnf : Cnf) (settings : Settings) (past : ℕ) (part : Sheet → List Lemma) → length (map part (sheets_at cnf settings past)) ≡ settings.cores
length-era cnf settings past part =
    length-map (sheets_at cnf settings past) part ∙ length-map (members_at cnf settings past) sheet_left ∙ length-members cnf settings past

pub length-parts : (cnf : Cnf) (settings : Settings) (past : ℕ) → length (parts_before cnf settings past) ≡ past
length-parts cnf settings zero = refl
length-parts cnf settings (suc past) =
    omega (arith, length-append (parts_before cnf settings past) (parts_of (sheets_at cnf settings past) ∷ []), length-parts cnf settings past)

-- == no lemma of an era that goes on is empty ==

pub literals-append : (lemmas more : List Lemma) → AllByRecursion HasLiterals lemmas → AllByRecursion HasLiterals more → AllByRecursion HasLiterals (lemmas ++ more)
literals-append [] more first second = second
literals-append (lemma ∷ later) more first second = (first.0, literals-append later more first.1 second)

parts_nonempty : (cnf : Cnf) (known : List NamedClause) (members : List Member) → AllByRecursion (IsMemberSound cnf known) members → HaveNoAnswer members →
    AllByRecursion HasLiterals (joined (parts_of (sheets_of members)))
parts_nonempty cnf known [] each none = tt
parts_nonempty cnf known (m ∷ later) each none =
    literals-append (stretched m).state.lemmas (joined (parts_of (sheets_of later)))
    (stretch_sound known m.frame m.quota m.state each.0.sound (not_refuted (stretched m).ended none.0)).derives.none_empty (parts_nonempty cnf known later each.1 none.1)

-- == the run ==

-- what is known at an era
abbrev pub known_at : Cnf → Settings → ℕ → List NamedClause
known_at cnf settings past = known_after cnf (parts_before cnf settings past)

-- what holds of a run at the era before which so many are past
pub record IsRunSound (cnf : Cnf) (settings : Settings) (past : ℕ) : Type 0 where
  pub counted : AreCounted cnf settings past (members_at cnf settings past)
  pub era : IsEraSound cnf (known_at cnf settings past) past (members_at cnf settings past)
  pub log : IsLog cnf settings (parts_before cnf settings past)
  pub none_empty : AllByRecursion HasLiterals (all_joined (parts_before cnf settings past))

first_members : (cnf : Cnf) (settings : Settings) (core more : ℕ) → IsFormula cnf → AllByRecursion (IsMemberSound cnf (originals cnf)) (members_from cnf settings core more)
first_members cnf settings core zero is = tt
first_members cnf settings core (suc more) is =
    (record { sound = first_sound cnf settings core is; holds = first_holds cnf settings core; root = refl }, first_members cnf settings (core + 1) more is)

pub run_sound : (cnf : Cnf) (settings : Settings) (past : ℕ) → IsFormula cnf → AreInRange settings → HasEra cnf settings past → IsRunSound cnf settings past
run_sound cnf settings zero is are has = record {
  counted = run_counted cnf settings 0 are has;
  era = subst (λ known. IsEraSound cnf known 0 (members_at cnf settings 0)) (sym (append-nil (originals cnf)))
      (record { each = first_members cnf settings 0 settings.cores is; none = (first_sound cnf settings 0 is).derives.fresh });
  log = no_log cnf settings;
  none_empty = tt;
}
run_sound cnf settings (suc past) is are has =
    let members = members_at cnf settings past in
    let eras = parts_before cnf settings past in
    let before = run_sound cnf settings past is are (λ q below. has q (omega (arith, below))) in
    let none = (goes_on members (has past (omega arith))).0 in
    let same : past + 1 ≡ suc past = omega arith in
    record {
      counted = run_counted cnf settings (suc past) are has;
      era = subst (λ p. IsEraSound cnf (known_at cnf settings (suc past)) p (after_era settings.period members)) same
          (subst (λ known. IsEraSound cnf known (past + 1) (after_era settings.period members)) (known_after-push cnf eras (parts_of (sheets_of members)))
          (era_kept cnf settings (known_at cnf settings past) past settings.period members before.counted before.era none));
      log = log_more cnf settings past eras (parts_of (sheets_of members)) (length-parts cnf settings past) (length-era cnf settings past (λ sheet. sheet.lemmas)) before.era.none
          (parts_are cnf settings (known_at cnf settings past) past 0 None members before.counted.frames before.counted.each before.era.each) before.log;
      none_empty = subst (λ lemmas. AllByRecursion HasLiterals lemmas) (sym (all_joined-push eras (parts_of (sheets_of members))))
          (literals-append (all_joined eras) (joined (parts_of (sheets_of members))) before.none_empty (parts_nonempty cnf (known_at cnf settings past) members before.era.each none));
    }

-- the log with the parts of an era that stand
pub log_at : (cnf : Cnf) (settings : Settings) (past : ℕ) (winner : Option ℕ) → IsRunSound cnf settings past →
    IsLog cnf settings (parts_before cnf settings past ++ standing_parts winner (sheets_at cnf settings past) ∷ [])
log_at cnf settings past winner run =
    let members = members_at cnf settings past in
    log_more cnf settings past (parts_before cnf settings past) (standing_parts winner (sheets_of members)) (length-parts cnf settings past)
    (length-era cnf settings past (λ sheet. cond (stands winner sheet.mail.core) sheet.lemmas [])) run.era.none
    (parts_are cnf settings (known_at cnf settings past) past 0 winner members run.counted.frames run.counted.each run.era.each) run.log
