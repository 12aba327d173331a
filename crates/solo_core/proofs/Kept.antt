-- What the search of a core keeps, from one call of the core to the next.
use Rattle.std.proofs.Common.{◌≡◌, ℕ, ◌≤◌, ◌<◌, ◌++◌, ap, ◌∙◌, subst, arith, ◌⊎◌, inl, inr}
use Rattle.lit_base.specs.Trail.{level_now}
use Rattle.solo_core.specs.State.{CoreFrame, CoreState, lemma_clauses, SearchState}
use Rattle.solo_core.specs.Stretch.{stretch}
use Rattle.solo_core.specs.Laws.{EndsByRule}
use Rattle.solo_core.specs.Searching.{IsJoined, IsSearchAt}
use Rattle.solo_core.specs.Period.{in_next_period, NoneOfOthers}
use Rattle.solo_core.specs.Soundness.{IsSound}
use Rattle.solo_core.proofs.Joined.{at_search}
use Rattle.solo_core.specs.Calls.{IsOpen, GoesOn, IsEnded}
use Rattle.solo_core.specs.declared.sheet.End.{End}
use Rattle.solo_core.specs.declared.sheet.End.TheVariants.{Quota, Sat, Unsat, Spent}
use Rattle.solo_core.proofs.EndRules.{ends_by_rule, spent_stays}
use Rattle.solo_core.proofs.StretchSound.{stretch_sound}
use Rattle.solo_core.proofs.NextPeriod.{next_period_sound, next_period_others}

-- by the rule of its end a stretch without an answer is at level 0
ruled_root : (frame : CoreFrame) (quota : ℕ) (state after : CoreState) (ended : End) → EndsByRule frame quota state after ended → GoesOn ended → level_now after.trail ≡ 0
ruled_root frame quota state after Quota rule goes = rule.2
ruled_root frame quota state after Spent rule goes = rule.2
ruled_root frame quota state after Sat rule goes = absurd goes
ruled_root frame quota state after Unsat rule goes = absurd goes

-- from level 0 a stretch without an answer comes back to level 0
stretch_root : (frame : CoreFrame) (quota : ℕ) (state : CoreState) → level_now state.trail ≡ 0 → state.conflicts ≤ frame.limit → GoesOn (stretch frame quota state).ended → level_now (stretch frame quota state).state.trail ≡ 0
stretch_root frame quota state root limit goes = by_limit (let split : (state.conflicts ≡ frame.limit) ⊎ (state.conflicts < frame.limit) = grind arith in split)
  where
    by_limit : (state.conflicts ≡ frame.limit) ⊎ (state.conflicts < frame.limit) → level_now (stretch frame quota state).state.trail ≡ 0
    by_limit (inl spent) = ap (λ (j : CoreState). level_now j.trail) (spent_stays frame quota state spent) ∙ root
    by_limit (inr left) = ruled_root frame quota state (stretch frame quota state).state (stretch frame quota state).ended (ends_by_rule frame quota state left) goes

-- what a core keeps after the stretch of a period
pub stretch_ended : (s after : SearchState) (quota : ℕ) (ended : End) → IsOpen s → IsSearchAt s.frame (stretch s.frame quota s.state).state after →
    ended ≡ (stretch s.frame quota s.state).ended → IsJoined after → IsEnded after ended
stretch_ended s after quota ended before is end joined =
    let t = stretch s.frame quota s.state in
    record {
      sound = λ other.
          let sound = stretch_sound before.base s.frame quota s.state before.sound (λ refutes. other (end ∙ refutes)) in
          record {
            base = before.base ++ lemma_clauses t.state.lemmas;
            sound = at_search (λ f k. IsSound (before.base ++ lemma_clauses t.state.lemmas) f (in_next_period k)) s.frame t.state after is
                (next_period_sound before.base s.frame t.state sound);
            others = at_search (λ f k. NoneOfOthers (before.base ++ lemma_clauses t.state.lemmas) k.period f.core) s.frame t.state after is
                (next_period_others before.base s.frame t.state sound);
          };
      root = λ goes.
          at_search (λ f k. level_now k.trail ≡ 0) s.frame t.state after is
          (stretch_root s.frame quota s.state before.root before.joined.counts.limit (subst GoesOn end goes));
      joined = joined;
    }
