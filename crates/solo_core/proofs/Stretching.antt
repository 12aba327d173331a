-- A stretch that makes its searches one after the other.
use Rattle.std.proofs.Common.{◌≡◌, ℕ, suc, ◌==◌, ◌+◌, List, refl, ap, sym, ◌∙◌, subst, arith}
use Rattle.std.specs.Prelude.{Option, Some, None}
use Rattle.std.proofs.lemmas.Bool.{cond-false, ne_eqb}
use Rattle.lit_base.specs.Rounds.{NamedClause}
use Rattle.lit_base.specs.Held.{clauses_of}
use Rattle.lit_base.specs.Quiet.{AreQuietBelow}
use Rattle.solo_core.specs.State.{CoreFrame, CoreState, SearchState}
use Rattle.solo_core.specs.Turn.{Turned}
use Rattle.solo_core.specs.declared.turn.TurnEnd.{TurnEnd}
use Rattle.solo_core.specs.declared.turn.TurnEnd.TheVariants.{Decided, Learnt, Refuted, Modelled}
use Rattle.solo_core.specs.Stretch.{Stretched, search_to_conflict, ended_at_root, after_search, search_to_quota}
use Rattle.solo_core.specs.declared.sheet.End.{End}
use Rattle.solo_core.specs.declared.sheet.End.TheVariants.{Spent}
use Rattle.solo_core.specs.Soundness.{IsSound}
use Rattle.solo_core.specs.Searching.{IsJoined, IsReady, IsSearchAt, FollowsSearch}
use Rattle.solo_core.proofs.Joined.{at_search, of_search}
use Rattle.solo_core.proofs.SoundStretch.{IsTurnSound, search_to_conflict_kept}

sound_unless : (base : List NamedClause) (frame : CoreFrame) (state : CoreState) (e : TurnEnd) → IsTurnSound base frame state e → (e ≡ Refuted → ⊥) → IsSound base frame state
sound_unless base frame state Decided is other = is
sound_unless base frame state Learnt is other = is
sound_unless base frame state Modelled is other = is.0
sound_unless base frame state Refuted is other = absurd (other refl)

-- a whole search of a state
abbrev pub searched : CoreFrame → CoreState → Turned
searched frame state = search_to_conflict (frame.variables + 1) frame state

-- a search that doesn't refute keeps what is sound
searched_sound : (base : List NamedClause) (frame : CoreFrame) (state : CoreState) → IsSound base frame state → ((searched frame state).came_to ≡ Refuted → ⊥) → IsSound base frame (searched frame state).state
searched_sound base frame state sound other = let t = searched frame state in sound_unless base frame t.state t.came_to (search_to_conflict_kept (frame.variables + 1) base frame state sound).sound other

-- so at no lower level a clause was left unit or falsified
pub searched_quiet : (s after : SearchState) (e : TurnEnd) → IsReady s → IsSearchAt s.frame (searched s.frame s.state).state after → e ≡ (searched s.frame s.state).came_to →
    (e ≡ Refuted → ⊥) → AreQuietBelow after.state.trail (clauses_of after.state.clauses)
searched_quiet s after e ready is end other =
    at_search (λ f k. AreQuietBelow k.trail (clauses_of k.clauses)) s.frame (searched s.frame s.state).state after is
    (searched_sound ready.base s.frame s.state ready.sound (λ refutes. other (end ∙ refutes))).holds.quiet

-- what the searches so far leave: the search is ready, and the searches to come end where the whole stretch ends
pub record IsStretching (frame : CoreFrame) (whole : Stretched) (left : ℕ) (s : SearchState) : Type 0 where
  pub ready : IsReady s
  pub frame_is : s.frame ≡ frame
  pub rest : search_to_quota left s.frame s.state ≡ whole

-- what follows the next search
follows_next : (s found after : SearchState) (e : TurnEnd) (o : Option End) → IsSearchAt s.frame (searched s.frame s.state).state found → e ≡ (searched s.frame s.state).came_to →
    FollowsSearch found.frame found.state e after o → FollowsSearch s.frame (searched s.frame s.state).state (searched s.frame s.state).came_to after o
follows_next s found after e o found_is end follows =
    let t = searched s.frame s.state in
    subst (λ (d : TurnEnd). FollowsSearch s.frame t.state d after o) end (of_search (λ f k. FollowsSearch f k e after o) s.frame t.state found found_is follows)

-- where a stretch ended
pub record HasStretched (frame : CoreFrame) (whole : Stretched) (after : SearchState) (ended : End) : Type 0 where
  pub at : IsSearchAt frame whole.state after
  pub end : ended ≡ whole.ended

-- the next search ends the stretch
pub stretch_leaves : (frame : CoreFrame) (whole : Stretched) (left less : ℕ) (s found after : SearchState) (e : TurnEnd) (ended : End) → left ≡ suc less → IsStretching frame whole left s →
    IsSearchAt s.frame (searched s.frame s.state).state found → e ≡ (searched s.frame s.state).came_to → FollowsSearch found.frame found.state e after (Some ended) → HasStretched frame whole after ended
stretch_leaves frame whole left less s found after e ended is stretching found_is end follows =
    let next = follows_next s found after e (Some ended) found_is end follows in
    let whole_is : record { state = after.state; ended = ended } ≡ whole = sym (next.1 (search_to_quota less s.frame)) ∙ (ap (λ n. search_to_quota n s.frame s.state) (sym is) ∙ stretching.rest) in
    record {
      at = (next.0 ∙ stretching.frame_is, ap (λ (w : Stretched). w.state) whole_is);
      end = ap (λ (w : Stretched). w.ended) whole_is;
    }

learnt_more : (frame : CoreFrame) (more : CoreState → Stretched) (state : CoreState) (e : TurnEnd) → e ≡ Learnt → (state.conflicts ≡ frame.limit → ⊥) → after_search frame more state e ≡ more state
learnt_more frame more state e is left =
    ap (λ d. after_search frame more state d) is ∙ cond-false (state.conflicts == frame.limit) (ended_at_root Spent state) (more state) (ne_eqb state.conflicts frame.limit left)

-- or is followed by the others
pub stretch_goes_on : (frame : CoreFrame) (whole : Stretched) (left less : ℕ) (s found after : SearchState) (e : TurnEnd) → left ≡ suc less → IsStretching frame whole left s →
    IsSearchAt s.frame (searched s.frame s.state).state found → e ≡ (searched s.frame s.state).came_to → FollowsSearch found.frame found.state e after None → IsJoined after →
    IsStretching frame whole less after
stretch_goes_on frame whole left less s found after e is stretching found_is end follows joined =
    let next = follows_next s found after e None found_is end follows in
    let t = searched s.frame s.state in
    record {
      ready = record {
        base = stretching.ready.base;
        sound = at_search (λ f k. IsSound stretching.ready.base f k) s.frame t.state after next.0
            (searched_sound stretching.ready.base s.frame s.state stretching.ready.sound (λ refutes. let clash : Learnt ≡ Refuted = sym next.1 ∙ refutes in cc));
        joined = joined;
        left = let low = joined.counts.limit in
            let apart : after.state.conflicts ≡ after.frame.limit → ⊥ = at_search (λ f k. k.conflicts ≡ f.limit → ⊥) s.frame t.state after next.0 next.2 in omega arith;
      };
      frame_is = next.0.0 ∙ stretching.frame_is;
      rest = at_search (λ f k. search_to_quota less f k ≡ whole) s.frame t.state after next.0
          (sym (learnt_more s.frame (search_to_quota less s.frame) t.state t.came_to next.1 next.2) ∙ (ap (λ n. search_to_quota n s.frame s.state) (sym is) ∙ stretching.rest));
    }
