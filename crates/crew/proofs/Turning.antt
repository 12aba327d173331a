-- From one era to the next: what the outcome is where the run is over, and what was written.
use Rattle.std.proofs.Common.{◌≡◌, ℕ, ◌+◌, ◌<◌, Bool, true, false, cond, List, [], ◌∷◌, ◌++◌, length, refl, ap, sym, ◌∙◌, subst, arith, add-one}
use Rattle.std.specs.Prelude.{◌||◌, Option, Some, None, is_some, option_map, Result, Ok, Err, IsErrAnd}
use Rattle.std.proofs.lemmas.Bool.{cond-true, cond-false}
use Rattle.std.proofs.lemmas.Option.{same_Some, none-some}
use Rattle.lit_base.specs.Cnf.{Cnf, IsFormula}
use Rattle.desk_io.specs.Told.{OutputsTold}
use Rattle.solo_core.specs.First.{AreInRange}
use Rattle.solo_core.specs.declared.sheet.Mail.{Mail}
use Rattle.solo_core.specs.declared.sheet.Sheet.{Sheet}
use Rattle.solo_core.specs.declared.sheet.Settings.{Settings}
use Rattle.log_merge.specs.declared.stop.Stop.{Stop}
use Rattle.log_merge.specs.declared.stop.Stop.TheVariants.{NoMemory as WantOfMemory}
use Rattle.crew.specs.declared.logged.Logged.{Logged}
use Rattle.crew.specs.declared.outcome.Outcome.{Outcome}
use Rattle.crew.specs.declared.trace.TraceRow.{TraceRow}
use Rattle.crew.specs.Era.{mails_in, winner_of, is_over}
use Rattle.crew.specs.Run.{members_at, mails_at, sheets_at, HasEra}
use Rattle.crew.specs.Log.{standing_parts, parts_before, parts_at, all_joined, log_text}
use Rattle.crew.specs.Trace.{rows_of, trace_before, trace_at}
use Rattle.crew.specs.Outcome.{outcome_from, outcome_at, outcome_of}
use Rattle.crew.specs.Turns.{WritesLog, text_before, era_text, logged_of, logged_before, logged_at, without_outcome}
use Rattle.crew.proofs.RunSound.{run_sound}
use Rattle.crew.proofs.LastEra.{has_more, has_within, last_only, last_within}
use Rattle.crew.proofs.Texts.{IsFront, front-same, text_of, era_more, text_is_front}
use Rattle.crew.proofs.Writings.{fine, log_then, log_longer, log_refused}
use Rattle.crew.proofs.InTurn.{mails_of_sheets}

-- == over or not ==

-- the mails of the era, as its sheets have them
pub mails_told : (cnf : Cnf) (settings : Settings) (past : ℕ) (sheets : List Sheet) → sheets ≡ sheets_at cnf settings past → mails_in sheets ≡ mails_at cnf settings past
mails_told cnf settings past sheets are = ap mails_in are ∙ mails_of_sheets (members_at cnf settings past)

-- whether the run is over, as they tell it
pub over_told : (cnf : Cnf) (settings : Settings) (past : ℕ) (sheets : List Sheet) (over b : Bool) → sheets ≡ sheets_at cnf settings past → over ≡ is_over (mails_in sheets) → over ≡ b →
    is_over (mails_at cnf settings past) ≡ b
over_told cnf settings past sheets over b are is so = sym (is ∙ ap is_over (mails_told cnf settings past sheets are)) ∙ so

nobody_by : (o : Option Mail) (b : Bool) → (is_some o || b) ≡ false → option_map (λ (mail : Mail). mail.core) o ≡ None
nobody_by None b on = refl
nobody_by (Some mail) b on = cc

-- where the run goes on all parts stand
pub went_on : (cnf : Cnf) (settings : Settings) (past : ℕ) → is_over (mails_at cnf settings past) ≡ false → parts_at cnf settings past ≡ parts_before cnf settings (past + 1)
went_on cnf settings past on =
    ap (λ winner. parts_before cnf settings past ++ standing_parts winner (sheets_at cnf settings past) ∷ []) (nobody_by (winner_of (mails_at cnf settings past)) _ on)
    ∙ ap (parts_before cnf settings) (sym (add-one past))

-- the trace with the rows of the era
pub trace_told : (cnf : Cnf) (settings : Settings) (log : Bool) (past : ℕ) (logged : Logged) (trace : List TraceRow) (sheets : List Sheet) → logged ≡ logged_at cnf settings log past →
    sheets ≡ sheets_at cnf settings past → trace ≡ logged.trace ++ rows_of settings.period (mails_in sheets) → trace ≡ trace_at cnf settings past
trace_told cnf settings log past logged trace sheets is are more =
    more ∙ ap (λ (l : Logged). l.trace ++ rows_of settings.period (mails_in sheets)) is
    ∙ ap (λ mails. trace_before cnf settings past ++ rows_of settings.period mails) (mails_told cnf settings past sheets are)

-- where the run goes on, that is what the next era begins with
pub logged_next : (cnf : Cnf) (settings : Settings) (log : Bool) (past : ℕ) (logged : Logged) (trace : List TraceRow) → is_over (mails_at cnf settings past) ≡ false →
    logged ≡ logged_at cnf settings log past → trace ≡ trace_at cnf settings past → (let l : Logged = record logged { trace = trace } in l) ≡ logged_before cnf settings log (past + 1)
logged_next cnf settings log past logged trace on is told =
    ap (λ (l : Logged). let k : Logged = record l { trace = trace } in k) is
    ∙ ap (logged_of cnf settings log (parts_at cnf settings past)) (told ∙ ap (trace_before cnf settings) (sym (add-one past)))
    ∙ ap (λ eras. logged_of cnf settings log eras (trace_before cnf settings (past + 1))) (went_on cnf settings past on)

-- the numbers of eras are small
pub era_below : (cnf : Cnf) (settings : Settings) (past : ℕ) → AreInRange settings → HasEra cnf settings past → past < settings.limit
era_below cnf settings past are has = omega (arith, has_within cnf settings past are has, last_within cnf settings are)

-- == the outcome ==

-- what the last era comes to
pub ended_with : (cnf : Cnf) (settings : Settings) (log : Bool) (past : ℕ) (logged : Logged) (trace : List TraceRow) (sheets : List Sheet) (outcome : Outcome) → is_over (mails_at cnf settings past) ≡ true →
    logged ≡ logged_at cnf settings log past → trace ≡ trace_at cnf settings past → sheets ≡ sheets_at cnf settings past → outcome ≡ outcome_from (past + 1) logged.lemmas trace sheets →
    Some outcome ≡ cond (is_over (mails_at cnf settings past)) (Some (outcome_at cnf settings past)) None
ended_with cnf settings log past logged trace sheets outcome over is told are made =
    ap Some (made ∙ ap (λ (l : Logged). outcome_from (past + 1) l.lemmas trace sheets) is
    ∙ ap (λ rows. outcome_from (past + 1) (length (all_joined (parts_at cnf settings past))) rows sheets) told
    ∙ ap (outcome_from (past + 1) (length (all_joined (parts_at cnf settings past))) (trace_at cnf settings past)) are)
    ∙ sym (cond-true (is_over (mails_at cnf settings past)) (Some (outcome_at cnf settings past)) None over)

pub not_ended : (cnf : Cnf) (settings : Settings) (past : ℕ) → is_over (mails_at cnf settings past) ≡ false →
    (let none : Option Outcome = None in none) ≡ cond (is_over (mails_at cnf settings past)) (Some (outcome_at cnf settings past)) None
not_ended cnf settings past on = sym (cond-false (is_over (mails_at cnf settings past)) (Some (outcome_at cnf settings past)) None on)

-- an answer says that the run is over, and none that it isn't
over_by : (b : Bool) (outcome other : Outcome) → Some outcome ≡ cond b (Some other) None → (b ≡ true) × (outcome ≡ other)
over_by true outcome other is = (refl, same_Some outcome other is)
over_by false outcome other is = absurd (none-some outcome (sym is))

on_by : (b : Bool) (other : Outcome) → (let none : Option Outcome = None in none) ≡ cond b (Some other) None → b ≡ false
on_by true other is = absurd (none-some other is)
on_by false other is = refl

pub over_with : (cnf : Cnf) (settings : Settings) (past : ℕ) (ended : Option Outcome) (outcome : Outcome) → ended ≡ cond (is_over (mails_at cnf settings past)) (Some (outcome_at cnf settings past)) None → ended ≡ Some outcome →
    (is_over (mails_at cnf settings past) ≡ true) × (outcome ≡ outcome_at cnf settings past)
over_with cnf settings past ended outcome is some = over_by (is_over (mails_at cnf settings past)) outcome (outcome_at cnf settings past) (sym some ∙ is)

pub on_with : (cnf : Cnf) (settings : Settings) (past : ℕ) (ended : Option Outcome) → ended ≡ cond (is_over (mails_at cnf settings past)) (Some (outcome_at cnf settings past)) None → ended ≡ None → is_over (mails_at cnf settings past) ≡ false
on_with cnf settings past ended is none = on_by (is_over (mails_at cnf settings past)) (outcome_at cnf settings past) (sym none ∙ is)

-- what isn't there is None
pub no_outcome : (ended : Option Outcome) → ((outcome : Outcome) → ended ≡ Some outcome → ⊥) → ended ≡ None
no_outcome None none = refl
no_outcome (Some outcome) none = absurd (none outcome refl)

pub run_outcome : (cnf : Cnf) (settings : Settings) (past : ℕ) (outcome : Outcome) → AreInRange settings → HasEra cnf settings past → is_over (mails_at cnf settings past) ≡ true → outcome ≡ outcome_at cnf settings past →
    outcome ≡ outcome_of cnf settings
run_outcome cnf settings past outcome are has over is = is ∙ ap (outcome_at cnf settings) (last_only cnf settings past are has over)

-- == what is written ==

-- the text of an era behind that of the eras before it
grown : (cnf : Cnf) (settings : Settings) (past : ℕ) → IsFormula cnf → AreInRange settings → HasEra cnf settings past → text_before cnf settings past ++ era_text cnf settings past ≡ text_of cnf settings (parts_at cnf settings past)
grown cnf settings past is are has = sym (era_more cnf settings past (run_sound cnf settings past is are has))

-- is a front of the log's
grown_front : (cnf : Cnf) (settings : Settings) (past : ℕ) → IsFormula cnf → AreInRange settings → HasEra cnf settings past → IsFront (text_before cnf settings past ++ era_text cnf settings past) (log_text cnf settings)
grown_front cnf settings past is are has = by_end (is_over (mails_at cnf settings past)) refl
  where
    by_end : (b : Bool) → is_over (mails_at cnf settings past) ≡ b → IsFront (text_before cnf settings past ++ era_text cnf settings past) (log_text cnf settings)
    by_end true over =
        subst (λ text. IsFront text (log_text cnf settings)) (sym (grown cnf settings past is are has ∙ ap (λ q. text_of cnf settings (parts_at cnf settings q)) (last_only cnf settings past are has over)))
        (front-same (log_text cnf settings))
    by_end false on =
        subst (λ text. IsFront text (log_text cnf settings)) (sym (grown cnf settings past is are has ∙ ap (text_of cnf settings) (went_on cnf settings past on)))
        (text_is_front cnf settings (past + 1) is are (has_more cnf settings past has on))

module _ (cnf : Cnf) (settings : Settings) (past : ℕ) (log : Bool) (start mid after : OutputsTold) (is : IsFormula cnf) (are : AreInRange settings) (has : HasEra cnf settings past)
    (before : WritesLog log (text_before cnf settings past) start mid fine) where
  -- an era that goes on was written
  pub written_on : is_over (mails_at cnf settings past) ≡ false → WritesLog log (era_text cnf settings past) mid after fine → WritesLog log (text_before cnf settings (past + 1)) start after fine
  written_on on era =
      subst (λ text. WritesLog log text start after fine) (grown cnf settings past is are has ∙ ap (text_of cnf settings) (went_on cnf settings past on))
      (log_then log (text_before cnf settings past) (era_text cnf settings past) start mid after fine before era)

  -- the last era was written
  pub written_all : is_over (mails_at cnf settings past) ≡ true → WritesLog log (era_text cnf settings past) mid after fine → WritesLog log (log_text cnf settings) start after fine
  written_all over era =
      subst (λ text. WritesLog log text start after fine) (grown cnf settings past is are has ∙ ap (λ q. text_of cnf settings (parts_at cnf settings q)) (last_only cnf settings past are has over))
      (log_then log (text_before cnf settings past) (era_text cnf settings past) start mid after fine before era)

  -- the run stopped in this era
  pub written_front : (stop : Stop) (result : Result Outcome Stop) → IsErrAnd result (λ y. y ≡ stop) → WritesLog log (era_text cnf settings past) mid after (Err stop) →
      WritesLog log (log_text cnf settings) start after (without_outcome result)
  written_front stop (Ok outcome) same era = absurd same
  written_front stop (Err y) same era =
      subst (λ (z : Stop). WritesLog log (log_text cnf settings) start after (Err z)) (sym same)
      (log_longer log (text_before cnf settings past ++ era_text cnf settings past) (log_text cnf settings) start after stop (grown_front cnf settings past is are has)
      (log_then log (text_before cnf settings past) (era_text cnf settings past) start mid after (Err stop) before era))

  -- memory was refused before this era was written
  pub refused_front : (result : Result Outcome Stop) → IsErrAnd result (λ y. y ≡ WantOfMemory) → WritesLog log (log_text cnf settings) start mid (without_outcome result)
  refused_front (Ok outcome) same = absurd same
  refused_front (Err y) same =
      subst (λ (z : Stop). WritesLog log (log_text cnf settings) start mid (Err z)) (sym same)
      (log_refused log (text_before cnf settings past) (log_text cnf settings) start mid (text_is_front cnf settings past is are has) before)
