-- Ways to run the cores: calls of a formula, settings, how many workers there are to be, whether the log is wanted, and outputs.
use Rattle.std.specs.Prelude.{◌≡◌, ℕ, Bool, Result, IfOk}
use Rattle.std.specs.Borrow.{Bor, MutBor}
use Rattle.lit_base.specs.Cnf.{Cnf}
use Rattle.desk_io.specs.Told.{OutputsTold}
use Rattle.solo_core.specs.declared.sheet.Settings.{Settings}
use Rattle.solo_core.specs.First.{AreInRange}
use Rattle.log_merge.specs.declared.stop.Stop.{Stop}
use Rattle.crew.specs.declared.outcome.Outcome.{Outcome}
use Rattle.crew.specs.Log.{log_text}
use Rattle.crew.specs.Outcome.{outcome_of}
use Rattle.crew.specs.Turns.{without_outcome, WritesLog}

-- the outcome is the run's, and its log is written where it is wanted, whoever did the work
pub record GivesRun (cnf : Cnf) (settings : Settings) (log : Bool) (before after : OutputsTold) (result : Result Outcome Stop) : Type 0 where
  pub outcome : IfOk result (λ outcome. outcome ≡ outcome_of cnf settings)
  pub writes : WritesLog log (log_text cnf settings) before after (without_outcome result)

-- a way that may be called wherever the settings are in their ranges
abbrev pub MayRun : {O : Type 0} → (Bor Cnf → Bor Settings → ℕ → Bool → MutBor O → Type 0) → Type 0
MayRun pre = (formula : Bor Cnf) (settings : Bor Settings) (workers : ℕ) (log : Bool) (outputs : MutBor _)
    → AreInRange settings.now → pre formula settings workers log outputs

-- a way whose calls give the run for any number of workers
abbrev pub RunsCores : {O : Type 0} → (O → OutputsTold) → (Bor Cnf → Bor Settings → ℕ → Bool → MutBor O → Result Outcome Stop → MutBor O → Type 0) → Type 0
RunsCores told post = (formula : Bor Cnf) (settings : Bor Settings) (workers : ℕ) (log : Bool) (before : MutBor _) (result : Result Outcome Stop) (after : MutBor _)
    → AreInRange settings.now → post formula settings workers log before result after
    → GivesRun formula.now settings.now log (told before.now) (told after.now) result
