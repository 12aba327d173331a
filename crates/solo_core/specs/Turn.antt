-- One turn of a core: propagation, and then a decision, or what its conflict teaches
-- (DPLL with clause learning: Marques-Silva and Sakallah 1996).
use Rattle.std.specs.Prelude.{ℕ, ◌+◌, ◌-◌, ◌*◌, ◌%◌, ◌==◌, nat_lt, Bool, if◌then◌else◌, List, [], ◌∷◌, ◌++◌, length, slice_set}
use Rattle.std.specs.Prelude.{Option, Some, None, option_map, unwrap_or}
use Rattle.lit_base.specs.Literal.{Literal}
use Rattle.lit_base.specs.Trail.{level_now, with_decision}
use Rattle.lit_base.specs.Backjump.{cut, saved_after, last_value}
use Rattle.lit_base.specs.Rounds.{Propagated, propagate}
use Rattle.lit_base.specs.Named.{lits_at}
use Rattle.lit_base.specs.Held.{clauses_of, with_clause, with_uses, without_names, volume_of}
use Rattle.lit_base.specs.Analysis.{lesson_of}
use Rattle.lit_base.specs.declared.name.Name.{Name}
use Rattle.lit_base.specs.declared.lesson.Lesson.{Lesson}
use Rattle.clause_pool.specs.Uses.{cleared}
use Rattle.var_order.specs.Order.{activity_at, halves, best_of}
use Rattle.tempo.specs.Tempo.{is_due, after_conflict}
use Rattle.trim_rule.specs.Reduction.{dropped_names}
use Rattle.solo_core.specs.declared.lemma.Lemma.{Lemma}
use Rattle.solo_core.specs.declared.turn.TurnEnd.{TurnEnd}
use Rattle.solo_core.specs.declared.turn.TurnEnd.TheVariants.{Decided, Learnt, Refuted, Modelled}
use Rattle.solo_core.specs.State.{CoreFrame, CoreState, lemma_name}

-- the state after a turn, and what the turn came to
pub record Turned : Type 0 where
  pub state : CoreState
  pub came_to : TurnEnd

-- the clauses that a core holds, by their names
abbrev pub look_of : CoreState → Name → Option (List Literal)
look_of state = lits_at (clauses_of state.clauses)

-- where propagation of the held clauses ends
abbrev pub propagated : CoreFrame → CoreState → Propagated
propagated frame state = propagate frame.variables (clauses_of state.clauses) state.trail

-- the literal of a variable with the value that it last had, and with the row's phase where it never had one
abbrev pub last_literal : CoreFrame → CoreState → ℕ → Literal
last_literal frame state v = record { variable = v; positive = unwrap_or (last_value state.trail state.saved v) frame.row.phase }

-- the literal to decide: that of the free variable of greatest activity, and among these of lowest number, if one is free
abbrev pub picked : CoreFrame → CoreState → Option Literal
picked frame state = option_map (last_literal frame state) (best_of frame.variables state.activities state.trail)

-- the state after the decision of a literal
abbrev pub decided : Literal → CoreState → CoreState
decided l state = record state { trail = with_decision l state.trail }

-- the state after a jump to a level
abbrev pub jumped : ℕ → CoreState → CoreState
jumped level state = record state { trail = cut level state.trail; saved = saved_after level state.trail state.saved }

-- the lemma of a lesson under the next name of the period
abbrev pub lemma_of : CoreFrame → CoreState → Lesson → Lemma
lemma_of frame state lesson =
    record { name = lemma_name state.period frame.core (length state.lemmas); lits = lesson.lits; hints = lesson.hints }

-- a conflict is counted, and its lemma is the next of the period
abbrev pub with_lemma : Lemma → CoreState → CoreState
with_lemma lemma state = record state {
  conflicts = state.conflicts + 1;
  period_conflicts = state.period_conflicts + 1;
  lemmas = state.lemmas ++ lemma ∷ [];
}

-- the lemma is held, without uses, and each of its hints that is a held lemma has one use more
abbrev pub with_held : Lemma → CoreState → CoreState
with_held lemma state = record state {
  clauses = with_uses lemma.hints (with_clause (record { name = lemma.name; lits = lemma.lits; uses = 0 }) state.clauses);
}

-- the lemma of a lesson is counted and held, and the core jumps back
abbrev pub jumped_back : CoreFrame → Lesson → CoreState → CoreState
jumped_back frame lesson state = let lemma = lemma_of frame state lesson in jumped lesson.back (with_held lemma (with_lemma lemma state))

-- activities, with those of these variables raised by a weight
abbrev pub raised : ℕ → List ℕ → List ℕ → List ℕ
raised weight [] activities = activities
raised weight (v ∷ later) activities = raised weight later (slice_set activities (v - 1) (activity_at activities v + weight))

-- activities, all of them halved where the conflicts are a multiple of the row's number
abbrev pub halved_at : ℕ → ℕ → List ℕ → List ℕ
halved_at halve conflicts activities = if conflicts % halve == 0 then halves activities else activities

-- the activities after a conflict: those of the touched variables rise by the row's weight, and then all are halved where
-- that is due
abbrev pub weighed : CoreFrame → List ℕ → CoreState → CoreState
weighed frame touched state =
    record state { activities = halved_at frame.row.halve state.conflicts (raised frame.row.weight touched state.activities) }

-- a reduction is due where more lemmas are held than 2000, and 500 for each reduction that was made
abbrev pub is_reduction_due : CoreState → Bool
is_reduction_due state = nat_lt (2000 + 500 * state.reductions) (volume_of state.clauses)

-- after a reduction: the clauses that the rule chooses are dropped, and the uses of the others begin anew
abbrev pub after_reduction : CoreState → CoreState
after_reduction state = record state {
  clauses = cleared (without_names (dropped_names state.clauses state.trail) state.clauses);
  reductions = state.reductions + 1;
}

-- clauses are dropped where a reduction is due
abbrev pub reduced : CoreState → CoreState
reduced state = if is_reduction_due state then after_reduction state else state

-- the tempo counts a conflict
abbrev pub with_tempo : CoreState → CoreState
with_tempo state = record state { tempo = after_conflict state.tempo }

-- the tempo counts a conflict, and where that makes a restart due the core jumps to level 0 and may reduce
abbrev pub paced : CoreState → CoreState
paced state = if is_due state.tempo then reduced (jumped 0 (with_tempo state)) else with_tempo state

-- after a conflict above level 0, in this order: the lemma is held and the core jumps back; activities; restart; reduction
abbrev pub learnt : CoreFrame → Lesson → CoreState → CoreState
learnt frame lesson state = paced (weighed frame lesson.touched (jumped_back frame lesson state))

-- after a conflict at level 0: the lemma, which is empty, is not held
abbrev pub refuted : CoreFrame → Lesson → CoreState → CoreState
refuted frame lesson state = with_lemma (lemma_of frame state lesson) state

-- a lesson refutes at level 0, and above it is learnt
abbrev pub taught : CoreFrame → CoreState → Lesson → Turned
taught frame state lesson =
    if level_now state.trail == 0
    then record { state = refuted frame lesson state; came_to = Refuted }
    else record { state = learnt frame lesson state; came_to = Learnt }

-- a literal that was picked is decided; where no variable is free the trail is a model
abbrev pub chosen : CoreState → Option Literal → Turned
chosen state None = record { state = state; came_to = Modelled }
chosen state (Some l) = record { state = decided l state; came_to = Decided }

-- what a turn comes to, from the state after propagation and the conflict that it met, if it met one
abbrev pub turn_by : CoreFrame → CoreState → Option Name → Turned
turn_by frame state None = chosen state (picked frame state)
turn_by frame state (Some conflict) = taught frame state (lesson_of (look_of state) state.trail conflict)

-- one turn
abbrev pub turn : CoreFrame → CoreState → Turned
turn frame state = let p = propagated frame state in turn_by frame (record state { trail = p.trail }) p.conflict
