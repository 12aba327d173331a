-- The settings of a run, and what a core begins with.
use Rattle.std.specs.Prelude.{ℕ, zero, suc, ◌≤◌, List, [], ◌∷◌, map, replicate, nat_abs, None, false}
use Rattle.lit_base.specs.Cnf.{Cnf}
use Rattle.lit_base.specs.Rounds.{originals}
use Rattle.lit_base.specs.Held.{unused}
use Rattle.core_rows.specs.Rows.{row_of}
use Rattle.core_rows.specs.Noise.{start_of}
use Rattle.core_rows.specs.Share.{share_limit}
use Rattle.tempo.specs.Tempo.{first_tempo}
use Rattle.solo_core.specs.State.{CoreFrame, CoreState, CoreValue}
use Rattle.solo_core.specs.declared.sheet.Settings.{Settings}

-- the settings are in their ranges; the seed is any number
pub record AreInRange (settings : Settings) : Type 0 where
  pub some_cores : 1 ≤ settings.cores
  pub few_cores : settings.cores ≤ 16
  pub some_period : 1 ≤ settings.period
  pub few_period : settings.period ≤ 100000
  pub few_share : settings.share ≤ 64
  pub some_limit : 1 ≤ settings.limit
  pub few_limit : settings.limit ≤ 1000000000

-- the share limit of the core of this number: the one that was asked for, changed by the row of the core
abbrev pub share_of_core : Settings → ℕ → ℕ
share_of_core settings core = nat_abs (share_limit (row_of core).share settings.share)

-- what never changes of the core of this number
abbrev pub frame_of : Cnf → Settings → ℕ → CoreFrame
frame_of cnf settings core =
    record { variables = cnf.variables; core = core; share = share_of_core settings core; limit = settings.limit; row = row_of core }

-- the start activities of the n variables from `first` on
abbrev pub starts_from : ℕ → ℕ → ℕ → ℕ → ℕ → List ℕ
starts_from bits seed core zero first = []
starts_from bits seed core (suc n) first = start_of bits seed core first ∷ starts_from bits seed core n (suc first)

-- the first state: the originals, the empty trail, no variable that ever had a value, the start activities of its row
-- and the beginning of the tempo
abbrev pub first_state : Cnf → Settings → ℕ → CoreState
first_state cnf settings core = record {
  period = 1;
  clauses = map unused (originals cnf);
  trail = [];
  saved = replicate cnf.variables None;
  conflicts = 0;
  period_conflicts = 0;
  lemmas = [];
  activities = starts_from (row_of core).noise settings.seed core cnf.variables 1;
  tempo = first_tempo (row_of core).unit;
  reductions = 0;
}

-- the core of this number at the start of period 1
abbrev pub first_core : Cnf → Settings → ℕ → CoreValue
first_core cnf settings core = record {
  frame = frame_of cnf settings core;
  state = first_state cnf settings core;
  ended = None;
  is_handed = false;
  is_broken = false;
}
