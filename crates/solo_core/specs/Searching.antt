-- What has to hold of a search before a step, and what its steps leave.
use Rattle.std.specs.Prelude.{ℕ, ◌+◌, ◌*◌, ◌^◌, ◌≤◌, ◌<◌, ◌≡◌, ◌≢◌, Bool, All, List, length, Option, Some, None}
use Rattle.std.specs.List.{AllByRecursion}
use Rattle.lit_base.specs.Rounds.{NamedClause}
use Rattle.lit_base.specs.Held.{HeldClause, clauses_of}
use Rattle.lit_base.specs.Fits.{IsConflict}
use Rattle.lit_base.specs.Analysis.{lesson_of}
use Rattle.lit_base.specs.declared.trail.Entry.{Entry}
use Rattle.lit_base.specs.declared.name.Name.{Name}
use Rattle.lit_base.specs.declared.lesson.Lesson.{Lesson}
use Rattle.round_prop.specs.Attached.{RoundsState, IsAttachedTo}
use Rattle.round_prop.specs.Spanned.{IsPlacedIn}
use Rattle.var_order.specs.Order.{OrderState, activity_at, HasAllFree}
use Rattle.tempo.specs.Tempo.{TempoState}
use Rattle.core_rows.specs.Rows.{IsInRange}
use Rattle.solo_core.specs.declared.lemma.Lemma.{Lemma}
use Rattle.solo_core.specs.State.{CoreFrame, CoreState, SearchState, order_of}
use Rattle.solo_core.specs.Turn.{look_of}
use Rattle.solo_core.specs.Stretch.{Stretched, after_search}
use Rattle.solo_core.specs.Soundness.{IsSound}
use Rattle.solo_core.specs.declared.turn.TurnEnd.{TurnEnd}
use Rattle.solo_core.specs.declared.turn.TurnEnd.TheVariants.{Learnt}
use Rattle.solo_core.specs.declared.sheet.End.{End}

-- no clause was a hint more often than there were conflicts
abbrev pub AreFewUses : ℕ → List HeldClause → Type 0
AreFewUses most held = AllByRecursion (λ c. c.uses ≤ most) held

-- no activity is above this
abbrev pub AreActivitiesUpTo : ℕ → List ℕ → Type 0
AreActivitiesUpTo most activities = (v : ℕ) → activity_at activities v ≤ most

-- numbers of variables, from 1 to this one
abbrev pub AreVariables : ℕ → List ℕ → Type 0
AreVariables variables numbers = All (λ v. (1 ≤ v) × (v ≤ variables)) numbers

-- what an activity has at most after so many conflicts: it begins below 2 ^ 16, and no conflict raises it by more than 5
abbrev pub most_activity : ℕ → ℕ
most_activity conflicts = 2 ^ 16 + 5 * conflicts

-- trail, propagation and conflict analysis are over so many variables, of which there are few
pub record AreOver (n : ℕ) (saved : List (Option Bool)) (rounds : RoundsState) (room : ℕ) : Type 0 where
  pub trail : length saved ≡ n
  pub propagation : rounds.variables ≡ n
  pub analysis : room ≡ n
  pub few : n ≤ 1000000

-- counts don't pass the conflicts, nor these the limit
pub record AreCounted (frame : CoreFrame) (held : List HeldClause) (made : List Lemma) (conflicts in_period : ℕ) : Type 0 where
  pub uses : AreFewUses conflicts held
  pub lemmas : length made ≤ conflicts
  pub period_conflicts : in_period ≤ conflicts
  pub limit : conflicts ≤ frame.limit
  pub few_conflicts : frame.limit ≤ 1000000000
  pub row : IsInRange frame.row

-- each variable has an activity, those that are free are in the order, and no activity is greater than can be
pub record IsOrdered (n : ℕ) (order : OrderState) (trail : List Entry) (conflicts : ℕ) : Type 0 where
  pub activities : length order.activities ≡ n
  pub present : HasAllFree order trail
  pub weights : AreActivitiesUpTo (most_activity conflicts) order.activities

-- no more restarts than conflicts, and no more reductions than restarts
pub record ArePaced (tempo : TempoState) (made conflicts : ℕ) : Type 0 where
  pub restarts : tempo.t ≤ conflicts + 1
  pub reductions : made ≤ tempo.t

-- the parts of a search fit one another
pub record IsJoined (s : SearchState) : Type 0 where
  pub over : AreOver s.frame.variables s.state.saved s.rounds s.analyser
  -- propagation goes over the held clauses, and has seen an older part of the trail
  pub attached : IsAttachedTo s.rounds (clauses_of s.state.clauses) s.state.trail
  -- and what it remembers of places is right
  pub placed : IsPlacedIn s.rounds s.added
  pub counts : AreCounted s.frame s.state.clauses s.state.lemmas s.state.conflicts s.state.period_conflicts
  pub order : IsOrdered s.frame.variables (order_of s) s.state.trail s.state.conflicts
  pub pace : ArePaced s.state.tempo s.state.reductions s.state.conflicts

-- a search that may make a turn: sound, its parts joined, and below its limit
pub record IsReady (s : SearchState) : Type 0 where
  pub base : List NamedClause
  pub sound : IsSound base s.frame s.state
  pub joined : IsJoined s
  pub left : s.state.conflicts < s.frame.limit

-- the search is at this state
abbrev pub IsSearchAt : CoreFrame → CoreState → SearchState → Type 0
IsSearchAt frame state s = (s.frame ≡ frame) × (s.state ≡ state)

-- the lesson is that of a conflict on the trail
pub record IsLesson (state : CoreState) (lesson : Lesson) : Type 0 where
  pub conflict : Name
  pub stands : IsConflict (look_of state) state.trail conflict
  pub lesson_is : lesson ≡ lesson_of (look_of state) state.trail conflict

-- after a search the stretch ends with this state, or goes on with the same state where a lemma was learnt and the limit
-- isn't reached
abbrev pub FollowsSearch : CoreFrame → CoreState → TurnEnd → SearchState → Option End → Type 0
FollowsSearch frame state came_to after None = IsSearchAt frame state after × (came_to ≡ Learnt) × (state.conflicts ≢ frame.limit)
FollowsSearch frame state came_to after (Some ended) =
    (after.frame ≡ frame) × ((more : CoreState → Stretched) → after_search frame more state came_to ≡ record { state = after.state; ended = ended })
