-- What each step of a core keeps.
use Rattle.std.proofs.Common.{◌≡◌, ℕ, ◌+◌, ◌<◌, true, cond, List, ◌++◌, All, refl, ap, sym, subst, arith, ◌⊎◌, inl, inr}
use Rattle.std.specs.Prelude.{None}
use Rattle.std.proofs.lemmas.Bool.{lt-leb}
use Rattle.lit_base.specs.Literal.{Literal, IsWithin}
use Rattle.lit_base.specs.Trail.{is_free, level_now, with_decision}
use Rattle.lit_base.specs.Backjump.{cut}
use Rattle.lit_base.specs.Rounds.{NamedClause}
use Rattle.lit_base.specs.Named.{lits_at}
use Rattle.lit_base.specs.Held.{HeldClause, clauses_of}
use Rattle.lit_base.specs.Walk.{FindsMore}
use Rattle.lit_base.specs.Fits.{FindsAll, IsFitting}
use Rattle.lit_base.specs.Quiet.{AreQuiet, AreQuietBelow}
use Rattle.lit_base.specs.declared.trail.Entry.{Entry}
use Rattle.lit_base.proofs.PropagationFits.{propagation_fits}
use Rattle.lit_base.proofs.TrailWithin.{cut_within, propagate_within}
use Rattle.lit_base.proofs.Cuts.{cut_fitting, level_now-cut-le, level_now-cut-mono, cut_cut, cut_itself, cut_propagated}
use Rattle.lit_base.proofs.FixIsQuiet.{fix_quiet}
use Rattle.solo_core.specs.declared.lemma.Lemma.{Lemma}
use Rattle.solo_core.specs.State.{CoreFrame, CoreState, lemma_clauses}
use Rattle.solo_core.specs.Turn.{look_of, propagated, decided, jumped}
use Rattle.solo_core.specs.Changes.{after_propagation, with_clauses}
use Rattle.solo_core.specs.Soundness.{IsDeriving, IsSound}

-- the trail after propagation
abbrev propagated_trail : CoreFrame → CoreState → List Entry
propagated_trail frame state = (propagated frame state).trail

-- at a level below the current one propagation changes nothing
quiet_below_propagated : (base : List NamedClause) (frame : CoreFrame) (state : CoreState) → IsSound base frame state → level_now (propagated_trail frame state) ≡ level_now state.trail →
    AreQuietBelow (propagated_trail frame state) (clauses_of state.clauses)
quiet_below_propagated base frame state sound same level low =
    let below : level < level_now state.trail = omega (arith, same) in
    subst (λ t. AreQuiet t (clauses_of state.clauses)) (sym (cut_propagated frame.variables level (clauses_of state.clauses) state.trail below)) (sound.holds.quiet level below)

-- propagation keeps what is sound
pub propagated_sound : (base : List NamedClause) (frame : CoreFrame) (state : CoreState) → IsSound base frame state → IsSound base frame (after_propagation frame state)
propagated_sound base frame state sound =
    let fits = propagation_fits (look_of state) frame.variables (clauses_of state.clauses) state.trail sound.holds.found sound.holds.fitting in
    record {
      holds = record {
        found = sound.holds.found;
        within = sound.holds.within;
        fitting = fits.fitting;
        trail_within = propagate_within frame.variables frame.variables (clauses_of state.clauses) state.trail sound.holds.within sound.holds.trail_within;
        quiet = quiet_below_propagated base frame state sound fits.level;
      };
      derives = sound.derives;
    }

-- below a decision the trail is the one before it, which is quiet, or cut to a lower level
quiet_below_decision : (l : Literal) (trail : List Entry) (clauses : List NamedClause) → AreQuiet trail clauses → AreQuietBelow trail clauses → AreQuietBelow (with_decision l trail) clauses
quiet_below_decision l trail clauses quiet below level low =
    subst (λ t. AreQuiet t clauses) (sym leaves) (by_level (let split : (level ≡ level_now trail) ⊎ (level < level_now trail) = grind arith in split))
  where
    leaves : cut level (with_decision l trail) ≡ cut level trail
    leaves = ap (λ b. cond b (with_decision l trail) (cut level trail)) (lt-leb (level_now trail + 1) level low)

    by_level : (level ≡ level_now trail) ⊎ (level < level_now trail) → AreQuiet (cut level trail) clauses
    by_level (inl is) = subst (λ t. AreQuiet t clauses) (sym (cut_itself level trail (omega (arith, is)))) quiet
    by_level (inr lower) = below level lower

-- any free variable may be decided after propagation without a conflict
pub decided_sound : (base : List NamedClause) (frame : CoreFrame) (state : CoreState) (l : Literal) → IsSound base frame state → (propagated frame state).conflict ≡ None → IsWithin frame.variables l →
    is_free (propagated frame state).trail l.variable ≡ true → IsSound base frame (decided l (after_propagation frame state))
decided_sound base frame state l sound none within free =
    let moved = propagated_sound base frame state sound in
    record {
      holds = record {
        found = sound.holds.found;
        within = sound.holds.within;
        fitting = record { distinct = (free, moved.holds.fitting.distinct); fits = (tt, moved.holds.fitting.fits); leveled = (refl, moved.holds.fitting.leveled) };
        trail_within = (within, moved.holds.trail_within);
        quiet = quiet_below_decision l (propagated_trail frame state) (clauses_of state.clauses) (fix_quiet frame.variables (clauses_of state.clauses) state.trail sound.holds.within none) moved.holds.quiet;
      };
      derives = sound.derives;
    }

quiet_below_cut : (base : List NamedClause) (frame : CoreFrame) (state : CoreState) (level : ℕ) → IsSound base frame state → AreQuietBelow (cut level state.trail) (clauses_of state.clauses)
quiet_below_cut base frame state level sound lower low =
    subst (λ t. AreQuiet t (clauses_of state.clauses)) (sym (cut_cut lower level state.trail (omega (arith, low, level_now-cut-le level state.trail))))
    (sound.holds.quiet lower (omega (arith, low, level_now-cut-mono level state.trail sound.holds.fitting.leveled)))

-- a jump keeps what is sound
pub jumped_sound : (base : List NamedClause) (frame : CoreFrame) (state : CoreState) (level : ℕ) → IsSound base frame state → IsSound base frame (jumped level state)
jumped_sound base frame state level sound = record {
  holds = record {
    found = sound.holds.found;
    within = sound.holds.within;
    fitting = cut_fitting (look_of state) level state.trail sound.holds.fitting;
    trail_within = cut_within frame.variables level state.trail sound.holds.trail_within;
    quiet = quiet_below_cut base frame state level sound;
  };
  derives = sound.derives;
}

-- the lemmas of the period derive as before where what is held now was known too
pub carried_sound : (base : List NamedClause) (frame : CoreFrame) (period : ℕ) (before after : List HeldClause) (lemmas : List Lemma) → IsDeriving base frame period before lemmas →
    FindsMore (lits_at (clauses_of after)) (lits_at (base ++ lemma_clauses lemmas)) (λ name. name) → IsDeriving base frame period after lemmas
carried_sound base frame period before after lemmas derives carried = record {
  carried = carried;
  fresh = derives.fresh;
  named = derives.named;
  derived = derives.derived;
  none_empty = derives.none_empty;
  lemmas_distinct = derives.lemmas_distinct;
  lemmas_within = derives.lemmas_within;
}

-- the same clauses with other uses
pub uses_sound : (base : List NamedClause) (frame : CoreFrame) (state : CoreState) (held : List HeldClause) → IsSound base frame state → clauses_of held ≡ clauses_of state.clauses → IsSound base frame (with_clauses held state)
uses_sound base frame state held sound same = record {
  holds = record {
    found = subst (λ cs. FindsAll (lits_at cs) cs) (sym same) sound.holds.found;
    within = subst (λ cs. All (λ c. All (IsWithin frame.variables) c.lits) cs) (sym same) sound.holds.within;
    fitting = subst (λ cs. IsFitting (lits_at cs) state.trail) (sym same) sound.holds.fitting;
    trail_within = sound.holds.trail_within;
    quiet = subst (λ cs. AreQuietBelow state.trail cs) (sym same) sound.holds.quiet;
  };
  derives = carried_sound base frame state.period state.clauses held state.lemmas sound.derives
      (subst (λ cs. FindsMore (lits_at cs) (lits_at (base ++ lemma_clauses state.lemmas)) (λ name. name)) (sym same) sound.derives.carried);
}
