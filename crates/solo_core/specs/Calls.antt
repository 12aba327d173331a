-- What the calls of a core leave, and what its search keeps from one call to the next.
use Rattle.std.specs.Prelude.{ℕ, ◌≡◌, ◌≢◌, ⊤, true, false, List, [], Option, Some, None}
use Rattle.lit_base.specs.Trail.{level_now}
use Rattle.lit_base.specs.Rounds.{NamedClause}
use Rattle.solo_core.specs.State.{CoreValue, SearchState}
use Rattle.solo_core.specs.Stretch.{stretch}
use Rattle.solo_core.specs.Period.{in_next_period, core_after_import, NoneOfOthers}
use Rattle.solo_core.specs.Soundness.{IsSound}
use Rattle.solo_core.specs.Searching.{IsJoined}
use Rattle.solo_core.specs.declared.sheet.End.{End}
use Rattle.solo_core.specs.declared.sheet.Mail.{Mail}
use Rattle.solo_core.specs.declared.sheet.End.TheVariants.{Quota, Sat, Unsat, Spent}

-- the core after a stretch
abbrev pub after_stretch : ℕ → CoreValue → CoreValue
after_stretch quota c =
    let s = stretch c.frame quota c.state in record c { state = s.state; ended = Some s.ended }

-- the core after its sheet was given: the lemmas of the period are moved out
abbrev pub after_sheet : CoreValue → CoreValue
after_sheet c = record c { state = record c.state { lemmas = [] }; is_handed = true }

-- the core after it imported what these mails post: it is at the start of the next period
abbrev pub after_import : List Mail → CoreValue → CoreValue
after_import mails c = record c { state = core_after_import mails c.state; ended = None; is_handed = false }

-- a search at the start of a period: it is sound, at level 0, and its parts are joined
pub record IsOpen (s : SearchState) : Type 0 where
  pub base : List NamedClause
  pub sound : IsSound base s.frame s.state
  pub root : level_now s.state.trail ≡ 0
  pub joined : IsJoined s

-- what the search of a period that is over needs for the next: over what is known by then it is sound there, and no
-- clause of another core has come in the period
pub record IsSoundNext (s : SearchState) : Type 0 where
  pub base : List NamedClause
  pub sound : IsSound base s.frame (in_next_period s.state)
  pub others : NoneOfOthers base s.state.period s.frame.core

-- an end that leaves more to search
abbrev pub GoesOn : End → Type 0
GoesOn Quota = ⊤
GoesOn Spent = ⊤
GoesOn Sat = ⊥
GoesOn Unsat = ⊥

-- no answer was found in the period, whether its stretch was made or not
abbrev pub HasNoAnswer : Option End → Type 0
HasNoAnswer None = ⊤
HasNoAnswer (Some ended) = GoesOn ended

-- a search whose stretch of the period ended so: unless it refuted it is sound for the next period, and without an
-- answer it is at level 0
pub record IsEnded (s : SearchState) (ended : End) : Type 0 where
  pub sound : ended ≢ Unsat → IsSoundNext s
  pub root : GoesOn ended → level_now s.state.trail ≡ 0
  pub joined : IsJoined s

-- what the search of a core keeps, before the stretch of a period and after it
abbrev pub IsKept : SearchState → Option End → Type 0
IsKept s None = IsOpen s
IsKept s (Some ended) = IsEnded s ended
