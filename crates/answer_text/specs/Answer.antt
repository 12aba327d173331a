-- The answer of `solve`, as text.
use Rattle.std.specs.Prelude.{Bool, true, false, List, [], ◌++◌, Option, Some, None, codes, ℕ}
use Rattle.lit_base.specs.Text.{values_text}
use Rattle.solo_core.specs.declared.sheet.Settings.{Settings}
use Rattle.crew.specs.declared.outcome.Verdict.{Verdict}
use Rattle.crew.specs.declared.outcome.Verdict.TheVariants.{Sat, Unsat, Unknown}
use Rattle.crew.specs.declared.outcome.Outcome.{Outcome}
use Rattle.answer_text.specs.Trace.{core_lines, era_lines, winner_line}

-- the trace of a run, where it is wanted: the lines of its cores, of its eras and of its winner
abbrev pub trace_text : Outcome → Settings → Bool → List ℕ
trace_text outcome settings false = []
trace_text outcome settings true = core_lines settings ++ (era_lines outcome.trace ++ winner_line outcome.winner)

-- the `s` line of a verdict (the answer format of the SAT competitions)
abbrev pub verdict_line : Verdict → List ℕ
verdict_line Sat = codes "s SATISFIABLE\n"
verdict_line Unsat = codes "s UNSATISFIABLE\n"
verdict_line Unknown = codes "s UNKNOWN\n"

-- the `v` lines of a model, where there is one
abbrev pub value_lines_of : Option (List Bool) → List ℕ
value_lines_of None = []
value_lines_of (Some model) = values_text model

-- they stand behind the verdict Sat alone
abbrev pub model_lines : Verdict → Option (List Bool) → List ℕ
model_lines Sat model = value_lines_of model
model_lines Unsat model = []
model_lines Unknown model = []

-- the answer of a run: the trace where it is wanted, the `s` line, and for Sat the `v` lines
abbrev pub answer_text : Outcome → Settings → Bool → List ℕ
answer_text outcome settings trace =
    trace_text outcome settings trace ++ (verdict_line outcome.verdict ++ model_lines outcome.verdict outcome.model)
