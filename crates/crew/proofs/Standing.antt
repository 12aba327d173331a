-- What stands of the log after an era, for the scribe.
use Rattle.std.proofs.Common.{◌≡◌, ℕ, ◌+◌, Bool, true, false, refl}
use Rattle.std.specs.Prelude.{Option, None, Some, Err, Result}
use Rattle.lit_base.specs.Cnf.{Cnf}
use Rattle.desk_io.specs.Told.{OutputsTold}
use Rattle.solo_core.specs.declared.sheet.Settings.{Settings}
use Rattle.log_merge.specs.declared.stop.Stop.{Stop}
use Rattle.log_merge.specs.declared.stop.Stop.TheVariants.{NoMemory as WantOfMemory}
use Rattle.crew.specs.declared.outcome.Outcome.{Outcome}
use Rattle.crew.specs.Era.{is_over}
use Rattle.crew.specs.Run.{mails_at}
use Rattle.crew.specs.Log.{log_text}
use Rattle.crew.specs.Turns.{IsEra, WritesLog, text_before, era_text}
use Rattle.crew.specs.Scribing.{LogStands}
use Rattle.crew.proofs.Texts.{text_is_front}
use Rattle.crew.proofs.Writings.{fine, log_refused}
use Rattle.crew.proofs.Turning.{written_on, written_all, written_front}

module _ (cnf : Cnf) (settings : Settings) (past : ℕ) (log : Bool) (start mid after : OutputsTold) (era : IsEra cnf settings past) (before : LogStands log cnf settings past start mid None) where
  pub stands_on : is_over (mails_at cnf settings past) ≡ false → WritesLog log (era_text cnf settings past) mid after fine → LogStands log cnf settings (past + 1) start after None
  stands_on on written = written_on cnf settings past log start mid after era.formula era.range era.has before on written

  pub stands_whole : is_over (mails_at cnf settings past) ≡ true → WritesLog log (era_text cnf settings past) mid after fine → WritesLog log (log_text cnf settings) start after fine
  stands_whole over written = written_all cnf settings past log start mid after era.formula era.range era.has before over written

  pub stands_front : (stop : Stop) → WritesLog log (era_text cnf settings past) mid after (Err stop) → WritesLog log (log_text cnf settings) start after (Err stop)
  stands_front stop written =
      let ended : Result Outcome Stop = Err stop in written_front cnf settings past log start mid after era.formula era.range era.has before stop ended refl written

  -- memory was refused before the era was written
  pub stands_refused : WritesLog log (log_text cnf settings) start mid (Err WantOfMemory)
  stands_refused = log_refused log (text_before cnf settings past) (log_text cnf settings) start mid (text_is_front cnf settings past era.formula era.range era.has) before

-- a scribe that gave no reason to stop has none
pub no_stop : (stop : Option Stop) → ((why : Stop) → stop ≡ Some why → ⊥) → stop ≡ None
no_stop None none = refl
no_stop (Some why) none = absurd (none why refl)
