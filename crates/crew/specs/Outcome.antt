-- What a run comes to.
use Rattle.std.specs.Prelude.{ℕ, ◌+◌, Bool, List, length, Option, Some, None, option_map, find}
use Rattle.lit_base.specs.Cnf.{Cnf}
use Rattle.solo_core.specs.declared.sheet.End.{End}
use Rattle.solo_core.specs.declared.sheet.End.TheVariants.{Quota, Sat as found_model, Unsat as derived_empty, Spent}
use Rattle.solo_core.specs.declared.sheet.Sheet.{Sheet}
use Rattle.solo_core.specs.declared.sheet.Settings.{Settings}
use Rattle.crew.specs.declared.outcome.Verdict.{Verdict}
use Rattle.crew.specs.declared.outcome.Verdict.TheVariants.{Sat, Unsat, Unknown}
use Rattle.crew.specs.declared.outcome.Outcome.{Outcome}
use Rattle.crew.specs.declared.trace.TraceRow.{TraceRow}
use Rattle.crew.specs.Era.{is_answer}
use Rattle.crew.specs.Run.{sheets_at, last_era}
use Rattle.crew.specs.Log.{all_joined, parts_at}
use Rattle.crew.specs.Trace.{trace_at}

-- the sheet of the winner: of the first core that has an answer
abbrev pub winning_sheet : List Sheet → Option Sheet
winning_sheet sheets = find (λ sheet. is_answer sheet.mail.end) sheets

-- what the answer of a stretch says of the formula
abbrev pub verdict_at : End → Verdict
verdict_at found_model = Sat
verdict_at derived_empty = Unsat
verdict_at Quota = Unknown
verdict_at Spent = Unknown

-- the winner's answer is the verdict
abbrev pub verdict_of : Option Sheet → Verdict
verdict_of None = Unknown
verdict_of (Some sheet) = verdict_at sheet.mail.end

-- and its model the run's
abbrev pub model_in : Option Sheet → Option (List Bool)
model_in None = None
model_in (Some sheet) = sheet.model

-- the outcome of a run of so many eras, with so many lemmas in its log and this trace, whose last era left these sheets
abbrev pub outcome_from : ℕ → ℕ → List TraceRow → List Sheet → Outcome
outcome_from eras lemmas trace sheets = let winner = winning_sheet sheets in record {
  verdict = verdict_of winner;
  eras = eras;
  winner = option_map (λ sheet. sheet.mail.core) winner;
  model = model_in winner;
  lemmas = lemmas;
  trace = trace;
}

-- the outcome of a run whose last era is the one before which so many are past
abbrev pub outcome_at : Cnf → Settings → ℕ → Outcome
outcome_at cnf settings past =
    outcome_from (past + 1) (length (all_joined (parts_at cnf settings past))) (trace_at cnf settings past) (sheets_at cnf settings past)

-- the outcome of the run
abbrev pub outcome_of : Cnf → Settings → Outcome
outcome_of cnf settings = outcome_at cnf settings (last_era cnf settings)
