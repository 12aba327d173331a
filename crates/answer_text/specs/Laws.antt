-- Words for the laws on answers.
use Rattle.std.specs.Prelude.{◌≡◌, ℕ, ◌<◌, ◌^◌, ◌==◌, List, [], Some, Option, Bool}
use Rattle.std.specs.List.{AllByRecursion, count_by}
use Rattle.crew.specs.declared.outcome.Outcome.{Outcome}
use Rattle.crew.specs.declared.outcome.Verdict.{Verdict}
use Rattle.crew.specs.declared.trace.TraceRow.{TraceRow}

-- how many lines a text has, each of which ends with a line feed
abbrev pub line_count : List ℕ → ℕ
line_count text = count_by (λ byte. byte == 10) text

-- the numbers of a row fit 64 bits
pub record FitsRow (row : TraceRow) : Type 0 where
  pub period : row.period < 2 ^ 64
  pub core : row.core < 2 ^ 64
  pub conflicts : row.conflicts < 2 ^ 64
  pub volume : row.volume < 2 ^ 64
  pub posted : row.posted < 2 ^ 64
  pub next : row.next < 2 ^ 64

-- those of each row do
abbrev pub FitRows : List TraceRow → Type 0
FitRows rows = AllByRecursion FitsRow rows

-- those of an outcome do, in its trace and for its winner
pub record FitsOutcome (outcome : Outcome) : Type 0 where
  pub rows : FitRows outcome.trace
  pub winner : (core : ℕ) → outcome.winner ≡ Some core → core < 2 ^ 64

-- the outcome of one era with this verdict, winner and model, and nothing in its trace
abbrev pub short_outcome : Verdict → Option ℕ → Option (List Bool) → Outcome
short_outcome verdict winner model =
    record { verdict = verdict; eras = 1; winner = winner; model = model; lemmas = 0; trace = [] }
