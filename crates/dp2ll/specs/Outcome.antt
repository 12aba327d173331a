-- The answer of a run, and what backs its verdict.
use Rattle.std.specs.Prelude.{◌≡◌, ◌↔◌, ℕ, Bool, List, length, Some}
use Rattle.std.specs.List.{AllByRecursion}
use Rattle.lit_base.specs.Cnf.{Cnf}
use Rattle.lit_base.specs.Truth.{Satisfies}
use Rattle.lit_base.specs.Text.{lines_text}
use Rattle.lit_base.specs.Judgement.{Checks, HasNoModel}
use Rattle.solo_core.specs.Soundness.{EndsEmpty}
use Rattle.solo_core.specs.declared.sheet.End.TheVariants.{Spent}
use Rattle.solo_core.specs.declared.sheet.Settings.{Settings}
use Rattle.crew.specs.declared.outcome.Verdict.TheVariants.{Sat, Unsat, Unknown}
use Rattle.crew.specs.Run.{last_ends}
use Rattle.crew.specs.Log.{log_of, log_lines, log_text}
use Rattle.crew.specs.Outcome.{outcome_of}
use Rattle.answer_text.specs.Answer.{answer_text}

-- the answer of the run with these settings, behind its trace where that is asked for
abbrev pub answer_of : Cnf → Settings → Bool → List ℕ
answer_of cnf settings trace = answer_text (outcome_of cnf settings) settings trace

-- the model has a value for each variable, and satisfies the formula
pub record IsModelOf (cnf : Cnf) (model : List Bool) : Type 0 where
  pub values : length model ≡ cnf.variables
  pub satisfied : Satisfies model cnf

-- the text of the log is that of a proof that checks, its last line and no earlier one is the empty lemma, and no model
-- satisfies the formula
pub record IsRefuted (cnf : Cnf) (settings : Settings) : Type 0 where
  pub text : log_text cnf settings ≡ lines_text (log_lines cnf settings)
  pub checked : Checks cnf (log_lines cnf settings)
  pub ends_empty : EndsEmpty (log_of cnf settings)
  pub no_model : HasNoModel cnf

-- each core has had all conflicts that it may have in the run, without an answer
abbrev pub AreAllSpent : Cnf → Settings → Type 0
AreAllSpent cnf settings = AllByRecursion (λ e. e ≡ Spent) (last_ends cnf settings)

-- the run of these settings finds this model, which is one of the formula
pub record FindsModel (cnf : Cnf) (settings : Settings) (model : List Bool) : Type 0 where
  pub found : (outcome_of cnf settings).model ≡ Some model
  pub satisfied : IsModelOf cnf model

-- what backs each verdict of the run: a model, a proof that checks, or that every core has spent its limit
pub record IsBacked (cnf : Cnf) (settings : Settings) : Type 0 where
  pub model : (outcome_of cnf settings).verdict ≡ Sat → (model : List Bool) × FindsModel cnf settings model
  pub refuted : (outcome_of cnf settings).verdict ≡ Unsat → IsRefuted cnf settings
  pub unknown : ((outcome_of cnf settings).verdict ≡ Unknown) ↔ AreAllSpent cnf settings
