-- A stretch of a core: turns up to an answer, the quota of the period or the limit of the run.
use Rattle.std.specs.Prelude.{ℕ, zero, suc, ◌+◌, ◌==◌, if◌then◌else◌}
use Rattle.solo_core.specs.State.{CoreFrame, CoreState}
use Rattle.solo_core.specs.Turn.{Turned, turn, jumped}
use Rattle.solo_core.specs.declared.turn.TurnEnd.{TurnEnd}
use Rattle.solo_core.specs.declared.turn.TurnEnd.TheVariants.{Decided, Learnt, Refuted, Modelled}
use Rattle.solo_core.specs.declared.sheet.End.{End}
use Rattle.solo_core.specs.declared.sheet.End.TheVariants.{Quota, Sat, Unsat, Spent}

-- the state after a stretch, and how the stretch ended
pub record Stretched : Type 0 where
  pub state : CoreState
  pub ended : End

-- after a turn: a decision is followed by more, and anything else ends the search
abbrev pub after_turn : (CoreState → Turned) → CoreState → TurnEnd → Turned
after_turn more state Decided = more state
after_turn more state Learnt = record { state = state; came_to = Learnt }
after_turn more state Refuted = record { state = state; came_to = Refuted }
after_turn more state Modelled = record { state = state; came_to = Modelled }

-- turns up to the first that comes to no decision, at most as many as the first argument says
abbrev pub search_to_conflict : ℕ → CoreFrame → CoreState → Turned
search_to_conflict zero frame state = record { state = state; came_to = Decided }
search_to_conflict (suc most) frame state = let t = turn frame state in after_turn (search_to_conflict most frame) t.state t.came_to

-- a stretch without an answer ends at level 0
abbrev pub ended_at_root : End → CoreState → Stretched
ended_at_root ended state = record { state = jumped 0 state; ended = ended }

-- after a search: an answer ends the stretch, and so does a conflict that reaches the limit; another is followed by more
abbrev pub after_search : CoreFrame → (CoreState → Stretched) → CoreState → TurnEnd → Stretched
after_search frame more state Modelled = record { state = state; ended = Sat }
after_search frame more state Refuted = record { state = state; ended = Unsat }
after_search frame more state Learnt = if state.conflicts == frame.limit then ended_at_root Spent state else more state
after_search frame more state Decided = ended_at_root Spent state

-- a search for each conflict of the quota; one turn more than there are variables always suffices for it
abbrev pub search_to_quota : ℕ → CoreFrame → CoreState → Stretched
search_to_quota zero frame state = ended_at_root Quota state
search_to_quota (suc quota) frame state = let t = search_to_conflict (frame.variables + 1) frame state in after_search frame (search_to_quota quota frame) t.state t.came_to

-- a stretch: a core that has spent its limit does nothing
abbrev pub stretch : CoreFrame → ℕ → CoreState → Stretched
stretch frame quota state = if state.conflicts == frame.limit then record { state = state; ended = Spent } else search_to_quota quota frame state
