-- What holds of the scribe of a board, between the halves of its eras, and what stands of the log.
use Rattle.std.specs.Prelude.{ℕ, ◌≡◌, ◌+◌, Bool, true, false, Option, Some, None, Ok, Err}
use Rattle.lit_base.specs.Cnf.{Cnf}
use Rattle.desk_io.specs.Told.{OutputsTold}
use Rattle.era_board.specs.Passes.{account}
use Rattle.era_board.specs.Periods.{IsAtRest, HasSent}
use Rattle.log_merge.specs.declared.stop.Stop.{Stop}
use Rattle.solo_core.specs.declared.sheet.Settings.{Settings}
use Rattle.crew.specs.declared.scribe.Scribe.{Scribe}
use Rattle.crew.specs.declared.scribe.Written.{Written}
use Rattle.crew.specs.declared.scribe.Written.TheVariants.{GoesOn, Over, Stopped}
use Rattle.crew.specs.Era.{is_over}
use Rattle.crew.specs.Run.{mails_at}
use Rattle.crew.specs.Log.{log_text}
use Rattle.crew.specs.Outcome.{outcome_at}
use Rattle.crew.specs.Turns.{WritesLog, text_before, logged_before}
use Rattle.crew.specs.Parties.{Posts, IsPassIn}

-- the scribe at the start of an era: it has the log and the trace of the eras past, unless it has stopped
pub record ScribeAt (board : Posts) (cnf : Cnf) (settings : Settings) (log : Bool) (past : ℕ) (scribe : Scribe) : Type 0 where
  pub pass : IsPassIn board cnf settings scribe.pass
  pub last : (account scribe.pass).number ≡ settings.cores
  pub rest : IsAtRest (account scribe.pass)
  pub arrivals : (account scribe.pass).arrivals ≡ past
  pub logged : scribe.stop ≡ None → scribe.logged ≡ logged_before cnf settings log past

-- it has told each core whether to go on
pub record ScribeSent (board : Posts) (cnf : Cnf) (settings : Settings) (log : Bool) (past : ℕ) (scribe : Scribe) : Type 0 where
  pub pass : IsPassIn board cnf settings scribe.pass
  pub last : (account scribe.pass).number ≡ settings.cores
  pub sent : HasSent (account scribe.pass)
  pub arrivals : (account scribe.pass).arrivals ≡ past + 1
  pub logged : scribe.stop ≡ None → scribe.logged ≡ logged_before cnf settings log past

-- it has received the sheets of the last era
pub record ScribeDone (board : Posts) (cnf : Cnf) (settings : Settings) (past : ℕ) (scribe : Scribe) : Type 0 where
  pub pass : IsPassIn board cnf settings scribe.pass
  pub last : (account scribe.pass).number ≡ settings.cores
  pub rest : IsAtRest (account scribe.pass)
  pub arrivals : (account scribe.pass).arrivals ≡ past + 1

-- after it has received the sheets of an era it goes on into the next one, or the run is over and has this outcome; or it stops
abbrev pub ScribeReceives : Posts → Cnf → Settings → Bool → ℕ → Scribe → Written → Type 0
ScribeReceives board cnf settings log past scribe GoesOn =
    (is_over (mails_at cnf settings past) ≡ false) × ScribeAt board cnf settings log (past + 1) scribe
ScribeReceives board cnf settings log past scribe (Over outcome) =
    (is_over (mails_at cnf settings past) ≡ true) × (outcome ≡ outcome_at cnf settings past) × ScribeDone board cnf settings past scribe
ScribeReceives board cnf settings log past scribe (Stopped stop) = Unit {0}

-- what the scribe's own data are after an era of which it has all sheets
abbrev pub Concludes : Cnf → Settings → Bool → ℕ → Scribe → Written → Type 0
Concludes cnf settings log past scribe GoesOn =
    (is_over (mails_at cnf settings past) ≡ false) × (scribe.stop ≡ None → scribe.logged ≡ logged_before cnf settings log (past + 1))
Concludes cnf settings log past scribe (Over outcome) = (is_over (mails_at cnf settings past) ≡ true) × (outcome ≡ outcome_at cnf settings past)
Concludes cnf settings log past scribe (Stopped stop) = Unit {0}

-- what stands of the log at the start of an era: that of the eras past, and after a stop a front of the whole
abbrev pub LogStands : Bool → Cnf → Settings → ℕ → OutputsTold → OutputsTold → Option Stop → Type 0
LogStands log cnf settings past start now None = WritesLog log (text_before cnf settings past) start now (Ok tt)
LogStands log cnf settings past start now (Some stop) = WritesLog log (log_text cnf settings) start now (Err stop)

-- and after it
abbrev pub LogLeft : Bool → Cnf → Settings → ℕ → OutputsTold → OutputsTold → Option Stop → Written → Type 0
LogLeft log cnf settings past start now stop GoesOn = LogStands log cnf settings (past + 1) start now stop
LogLeft log cnf settings past start now stop (Over outcome) = WritesLog log (log_text cnf settings) start now (Ok tt)
LogLeft log cnf settings past start now stop (Stopped why) = WritesLog log (log_text cnf settings) start now (Err why)
