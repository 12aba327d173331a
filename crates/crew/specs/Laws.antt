-- Words for the laws: what a row of the trace tells, and small runs.
use Rattle.std.specs.Prelude.{ℕ, ◌≡◌, ◌+◌, ◌*◌, List, [], ◌∷◌, length, Option, slice_get}
use Rattle.lit_base.specs.Cnf.{Cnf}
use Rattle.lit_base.specs.Examples.{square}
use Rattle.lit_base.specs.Held.{volume_of}
use Rattle.solo_core.specs.Posts.{posts_of}
use Rattle.solo_core.specs.declared.sheet.Settings.{Settings}
use Rattle.crew.specs.declared.trace.TraceRow.{TraceRow}
use Rattle.crew.specs.Era.{Member, stretched}
use Rattle.crew.specs.Run.{first_member}
use Rattle.crew.specs.Outcome.{outcome_of}

-- == the trace ==

-- the row of the trace for the core at this place of the era before which so many are past
abbrev pub row_in_trace : Cnf → Settings → ℕ → ℕ → Option TraceRow
row_in_trace cnf settings past i = slice_get (outcome_of cnf settings).trace (past * settings.cores + i)

-- a row tells of the core at this place what it did in that era, in which it is this one
pub record Tells (past i : ℕ) (m : Member) (row : TraceRow) : Type 0 where
  pub period : row.period ≡ past + 1
  pub core : row.core ≡ i
  -- the conflicts of its stretch are those by which its conflicts in the run rose
  pub conflicts : m.state.conflicts + row.conflicts ≡ (stretched m).state.conflicts
  -- the clauses that it then holds and that are no originals
  pub volume : row.volume ≡ volume_of (stretched m).state.clauses
  -- of the lemmas of its stretch those that are no longer than it shares
  pub posted : row.posted ≡ length (posts_of m.frame.share (stretched m).state.lemmas)

-- == small runs ==

-- a row with these numbers, in the order of its line
abbrev pub traced : (period core conflicts volume posted next : ℕ) → TraceRow
traced period core conflicts volume posted next =
    record { period = period; core = core; conflicts = conflicts; volume = volume; posted = posted; next = next }

-- settings of so many cores with this limit
abbrev pub of_cores : ℕ → ℕ → Settings
of_cores cores limit = record { cores = cores; period = 300; share = 8; limit = limit; seed = 0 }

-- settings of two cores whose first period is one conflict
abbrev pub briefly : Settings
briefly = record (of_cores 2 10) { period = 1 }

-- two cores at the start of a run of the four clauses of two variables, with these quotas
abbrev pub brief_pair : ℕ → ℕ → List Member
brief_pair first second =
    record (first_member square (of_cores 2 9) 0) { quota = first } ∷ record (first_member square (of_cores 2 9) 1) { quota = second } ∷ []
