-- How a walk over the trail stands to the definition of the analysis.
use Rattle.std.specs.Prelude.{◌≡◌, ℕ, ◌==◌, List, [], ◌∷◌, ◌++◌, map, reverse, count_by, sum_by, Option}
use Rattle.lit_base.specs.Literal.{Literal, negation}
use Rattle.lit_base.specs.Analysis.{Trace, variables_of, touch, settle, trace_step, trace, back_of}
use Rattle.lit_base.specs.declared.trail.Entry.{Entry}
use Rattle.lit_base.specs.declared.name.Name.{Name}
use Rattle.trail_book.specs.TrailState.{place_of}
use Rattle.first_uip.specs.Marks.{AreFlagsOf, AreListed, one_if}
use Rattle.first_uip.specs.Places.{before}
use Rattle.first_uip.specs.declared.walk.Walk.{Walk}

-- the trace that has met nothing, with no marks
abbrev pub blank_trace : Trace
blank_trace = record { marked = []; stays = []; hints = []; touched = [] }

-- the trace with a clause cited: its variables are marked, and its name is a hint
abbrev pub cited : (Name → Option (List Literal)) → Name → Trace → Trace
cited look name t = record { marked = variables_of (look name) ++ t.marked; stays = t.stays; hints = name ∷ t.hints; touched = t.touched }

-- the step at the newest of these entries
abbrev pub first_step : (Name → Option (List Literal)) → ℕ → List Entry → Trace → Trace
first_step look level [] t = t
first_step look level (e ∷ older) t = trace_step look level e older t

-- what marked entries older than those of the current level give, the newest first: those of level 0 are resolved
abbrev pub settled : (Name → Option (List Literal)) → List Entry → Trace → Trace
settled look [] t = t
settled look (e ∷ older) t = settled look older (settle look (e.level == 0) e (touch e t))

-- a walk has gathered what a trace has: for what stays the lemma and the level to jump back to; its hints stand the other
-- way round
pub record IsGathered (level : ℕ) (walk : Walk) (t : Trace) : Type 0 where
  pub lemma : walk.lits.items ≡ map (λ e. negation e.lit) t.stays
  pub jump : walk.back ≡ back_of level t.stays
  pub turned : walk.hints.items ≡ reverse t.hints
  pub met : walk.touched.items ≡ t.touched

-- a walk stands where a trace does: with flags for what is marked
pub record Traces (level : ℕ) (walk : Walk) (t : Trace) : Type 0 where
  pub flagged : AreFlagsOf t.marked walk.marks.flags.items
  pub gathered : IsGathered level walk t

-- a walk that has come down to a place: it stands at a trace from which the rest leads where the whole leads
pub record IsWalked (look : Name → Option (List Literal)) (level place : ℕ) (trail : List Entry) (walk : Walk) (start : Trace) : Type 0 where
  pub trace_here : Trace
  pub stands : Traces level walk trace_here
  pub rest : trace look level (before place trail) trace_here ≡ trace look level trail start

-- the places that were found are those of the listed variables among these entries
pub record AreFound (rest : List Entry) (walk : Walk) : Type 0 where
  pub listed : AreListed walk.marks
  pub places : (p : ℕ) → count_by (λ at. at == p) walk.places.items ≡ sum_by (λ v. one_if (λ at. at == p) (place_of rest v)) walk.marks.marked.items
