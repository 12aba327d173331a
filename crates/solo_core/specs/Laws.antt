-- What the laws say of stretches: by which rule they end, what they count, and what core 0 does with small formulas.
use Rattle.std.specs.Prelude.{ℕ, ◌+◌, ◌<◌, ◌≤◌, ◌≡◌, List, [], ◌∷◌, length}
use Rattle.lit_base.specs.Literal.{Literal}
use Rattle.lit_base.specs.Cnf.{Cnf}
use Rattle.lit_base.specs.Trail.{level_now}
use Rattle.lit_base.specs.Held.{volume_of}
use Rattle.lit_base.specs.Examples.{plain, negated}
use Rattle.lit_base.specs.declared.name.Name.{Name}
use Rattle.solo_core.specs.declared.lemma.Lemma.{Lemma}
use Rattle.solo_core.specs.State.{CoreFrame, CoreState, lemma_name}
use Rattle.solo_core.specs.First.{frame_of, first_state}
use Rattle.solo_core.specs.Stretch.{Stretched, stretch}
use Rattle.solo_core.specs.declared.sheet.Settings.{Settings}
use Rattle.solo_core.specs.declared.sheet.End.{End}
use Rattle.solo_core.specs.declared.sheet.End.TheVariants.{Quota, Sat, Unsat, Spent}

-- == stretches ==

-- what stands at each end of a stretch that had a limit left: at Quota its conflicts are the quota, and the limit isn't
-- reached; at Spent the limit is reached, within the quota; at Sat the next conflict would have been within both; at
-- Unsat the last conflict was
abbrev pub EndsByRule : CoreFrame → ℕ → CoreState → CoreState → End → Type 0
EndsByRule frame quota before after Quota =
    (after.conflicts ≡ before.conflicts + quota) × (after.conflicts < frame.limit) × (level_now after.trail ≡ 0)
EndsByRule frame quota before after Spent =
    (after.conflicts ≡ frame.limit) × (after.conflicts ≤ before.conflicts + quota) × (level_now after.trail ≡ 0)
EndsByRule frame quota before after Sat = (after.conflicts < before.conflicts + quota) × (after.conflicts < frame.limit)
EndsByRule frame quota before after Unsat = (after.conflicts ≤ before.conflicts + quota) × (after.conflicts ≤ frame.limit)

-- each conflict of a stretch is counted twice, in all and in the period, and leaves one lemma
pub record CountsConflicts (before after : CoreState) : Type 0 where
  pub risen : before.conflicts ≤ after.conflicts
  pub in_period : after.period_conflicts + before.conflicts ≡ before.period_conflicts + after.conflicts
  pub lemmas : length after.lemmas + before.conflicts ≡ length before.lemmas + after.conflicts
  pub period : after.period ≡ before.period
  -- and the held clauses that are no originals are more by no more than that
  pub volume : volume_of after.clauses + before.conflicts ≤ volume_of before.clauses + after.conflicts

-- == small formulas ==

-- settings of one core with this limit
abbrev pub one_core : ℕ → Settings
one_core limit = record { cores = 1; period = 300; share = 8; limit = limit; seed = 0 }

-- the frame of core 0 for a formula, with a limit of conflicts
abbrev pub alone : Cnf → ℕ → CoreFrame
alone cnf limit = frame_of cnf (one_core limit) 0

-- the first stretch of core 0, whose quota is its limit
abbrev pub first_stretch : Cnf → ℕ → Stretched
first_stretch cnf limit = stretch (alone cnf limit) limit (first_state cnf (one_core limit) 0)

-- two clauses that leave variable 1 true and variable 2 free
abbrev pub keeper : Cnf
keeper = record { variables = 2; clauses = (plain 1 ∷ plain 2 ∷ []) ∷ (plain 1 ∷ negated 2 ∷ []) ∷ [] }

-- two clauses whose conflict at level 2 teaches a lemma of levels 2 and 1
abbrev pub stepped : Cnf
stepped = record {
  variables = 3;
  clauses = (plain 1 ∷ plain 2 ∷ plain 3 ∷ []) ∷ (plain 1 ∷ plain 2 ∷ negated 3 ∷ []) ∷ [];
}

-- three clauses whose first conflict touches variables 2 and 3, and not variable 1
abbrev pub aside : Cnf
aside = record {
  variables = 3;
  clauses = (plain 2 ∷ plain 3 ∷ []) ∷ (plain 2 ∷ negated 3 ∷ []) ∷ (plain 1 ∷ negated 2 ∷ negated 3 ∷ []) ∷ [];
}

-- the lemma of core 0 at this place in period 1
abbrev pub learnt_lemma : ℕ → List Literal → List Name → Lemma
learnt_lemma index lits hints = record { name = lemma_name 1 0 index; lits = lits; hints = hints }
