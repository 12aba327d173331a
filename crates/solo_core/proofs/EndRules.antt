-- By which rule a stretch ends, and how many conflicts it has.
use Rattle.std.proofs.Common.{◌≡◌, ℕ, zero, suc, ◌==◌, ◌+◌, ◌≤◌, ◌<◌, List, [], ◌∷◌, length, length-append, cond, not, ◌&&◌, refl, ap, sym, ◌∙◌, arith}
use Rattle.std.specs.Prelude.{Option, Some, None, option_map}
use Rattle.std.proofs.lemmas.Bool.{cond_both, eqb-true, eqb-false, eq-eqb}
use Rattle.lit_base.specs.Trail.{level_now}
use Rattle.lit_base.specs.Literal.{Literal}
use Rattle.lit_base.specs.Backjump.{cut}
use Rattle.lit_base.specs.Held.{HeldClause, clauses_of, is_among, is_original, with_clause, with_uses, without_names, volume_of}
use Rattle.clause_pool.specs.Uses.{without_uses, cleared}
use Rattle.clause_pool.proofs.Volume.{weight_of, weight-le, volume_of-cons, volume_of-with}
use Rattle.lit_base.specs.Analysis.{lesson_of}
use Rattle.lit_base.specs.declared.trail.Entry.{Entry}
use Rattle.lit_base.specs.declared.name.Name.{Name}
use Rattle.lit_base.specs.declared.lesson.Lesson.{Lesson}
use Rattle.lit_base.proofs.FixedPoint.{free_count, free_count-le}
use Rattle.tempo.specs.Tempo.{is_due}
use Rattle.trim_rule.specs.Reduction.{dropped_names}
use Rattle.var_order.specs.Order.{best_of}
use Rattle.var_order.proofs.Best.{best_of-some}
use Rattle.solo_core.specs.State.{CoreFrame, CoreState}
use Rattle.solo_core.specs.Turn.{Turned, look_of, propagated, last_literal, lemma_of, jumped, jumped_back, weighed, is_reduction_due, after_reduction, reduced, with_tempo, paced, learnt, refuted, taught, picked, chosen, turn_by, turn}
use Rattle.solo_core.specs.declared.turn.TurnEnd.{TurnEnd}
use Rattle.solo_core.specs.declared.turn.TurnEnd.TheVariants.{Decided, Learnt, Refuted, Modelled}
use Rattle.solo_core.specs.Stretch.{Stretched, after_turn, search_to_conflict, ended_at_root, after_search, search_to_quota, stretch}
use Rattle.solo_core.specs.Laws.{EndsByRule, CountsConflicts}
use Rattle.solo_core.specs.declared.sheet.End.{End}
use Rattle.solo_core.specs.declared.sheet.End.TheVariants.{Quota, Sat, Unsat, Spent}
use Rattle.lit_base.proofs.FreeVariables.{free_count-propagate, free_count-decided}
use Rattle.lit_base.proofs.Cuts.{level_now-cut-le}

-- a turn that decides takes a free variable
abbrev TakesOne : CoreFrame → CoreState → Turned → Type 0
TakesOne frame state t = t.came_to ≡ Decided → free_count frame.variables t.state.trail + 1 ≤ free_count frame.variables state.trail

chosen_takes : (frame : CoreFrame) (state : CoreState) (o : Option ℕ) → best_of frame.variables state.activities state.trail ≡ o → TakesOne frame state (chosen state (option_map (last_literal frame state) o))
chosen_takes frame state None none = λ is. cc
chosen_takes frame state (Some v) found =
    let best = best_of-some frame.variables state.activities state.trail v found in
    λ is. free_count-decided frame.variables (last_literal frame state v) state.trail best.2 best.0 best.1

taught_takes : (frame : CoreFrame) (state : CoreState) (lesson : Lesson) → TakesOne frame state (taught frame state lesson)
taught_takes frame state lesson =
    cond_both (level_now state.trail == 0) (record { state = refuted frame lesson state; came_to = Refuted }) (record { state = learnt frame lesson state; came_to = Learnt }) (TakesOne frame state)
    (λ root is. cc) (λ above is. cc)

turn_by_takes : (frame : CoreFrame) (state : CoreState) (o : Option Name) → TakesOne frame state (turn_by frame state o)
turn_by_takes frame state None = chosen_takes frame state (best_of frame.variables state.activities state.trail) refl
turn_by_takes frame state (Some conflict) = taught_takes frame state (lesson_of (look_of state) state.trail conflict)

turn_takes : (frame : CoreFrame) (state : CoreState) → TakesOne frame state (turn frame state)
turn_takes frame state is =
    let p = propagated frame state in
    let one = turn_by_takes frame (record state { trail = p.trail }) p.conflict is in
    omega (arith, one, free_count-propagate frame.variables frame.variables (clauses_of state.clauses) state.trail)

-- with one turn more than there are free variables a search never ends with a decision
search_suffices : (n : ℕ) (frame : CoreFrame) (state : CoreState) → free_count frame.variables state.trail < n → (search_to_conflict n frame state).came_to ≡ Decided → ⊥
search_suffices zero frame state enough = λ is. absurd (omega arith)
search_suffices (suc n) frame state enough = by_end (turn frame state).came_to (turn frame state).state (turn_takes frame state) (search_suffices n frame (turn frame state).state)
  where
    by_end : (e : TurnEnd) (l : CoreState) → (e ≡ Decided → free_count frame.variables l.trail + 1 ≤ free_count frame.variables state.trail) →
        (free_count frame.variables l.trail < n → (search_to_conflict n frame l).came_to ≡ Decided → ⊥) → (after_turn (search_to_conflict n frame) l e).came_to ≡ Decided → ⊥
    by_end Decided l takes further is = further (omega (arith, takes refl)) is
    by_end Learnt l takes further is = cc
    by_end Refuted l takes further is = cc
    by_end Modelled l takes further is = cc

-- one turn more than there are variables always suffices
pub turns_suffice : (frame : CoreFrame) (state : CoreState) → (search_to_conflict (frame.variables + 1) frame state).came_to ≡ Decided → ⊥
turns_suffice frame state = search_suffices (frame.variables + 1) frame state (omega (arith, free_count-le frame.variables state.trail))

-- counting uses changes no volume
volume_of-with_uses : (hints : List Name) (held : List HeldClause) → volume_of (with_uses hints held) ≡ volume_of held
volume_of-with_uses hints [] = refl
volume_of-with_uses hints (c ∷ later) =
    let rest = ap (λ n. n + weight_of (is_original c.name)) (volume_of-with_uses hints later) ∙ sym (volume_of-cons c later) in
    let used : HeldClause = record c { uses = c.uses + 1 } in
    cond_both (not (is_original c.name) && is_among hints c.name) used c
    (λ d. volume_of (d ∷ with_uses hints later) ≡ volume_of (c ∷ later))
    (λ counted. volume_of-cons used (with_uses hints later) ∙ rest)
    (λ uncounted. volume_of-cons c (with_uses hints later) ∙ rest)

-- a lemma that is learnt adds one at most
volume_of-held : (hints : List Name) (c : HeldClause) (held : List HeldClause) → volume_of (with_uses hints (with_clause c held)) ≤ volume_of held + 1
volume_of-held hints c held = omega (arith, volume_of-with_uses hints (with_clause c held), volume_of-with c held, weight-le (is_original c.name))

-- the state after so many conflicts more, each of which left a lemma
record Counted (more : ℕ) (before after : CoreState) : Type 0 where
  conflicts : after.conflicts ≡ before.conflicts + more
  in_period : after.period_conflicts ≡ before.period_conflicts + more
  lemmas : length after.lemmas ≡ length before.lemmas + more
  period : after.period ≡ before.period
  volume : volume_of after.clauses ≤ volume_of before.clauses + more

-- how many conflicts a turn has
abbrev conflicts_at : TurnEnd → ℕ
conflicts_at Decided = 0
conflicts_at Learnt = 1
conflicts_at Refuted = 1
conflicts_at Modelled = 0

-- what one turn does to the conflicts, and so what a search does
abbrev CountedTurn : CoreState → Turned → Type 0
CountedTurn state t = Counted (conflicts_at t.came_to) state t.state

chosen_counted : (state : CoreState) (o : Option Literal) → CountedTurn state (chosen state o)
chosen_counted state None = record { conflicts = omega arith; in_period = omega arith; lemmas = omega arith; period = refl; volume = omega arith }
chosen_counted state (Some l) = record { conflicts = omega arith; in_period = omega arith; lemmas = omega arith; period = refl; volume = omega arith }

-- nor does counting uses anew
volume_of-cleared : (held : List HeldClause) → volume_of (cleared held) ≡ volume_of held
volume_of-cleared [] = refl
volume_of-cleared (c ∷ later) = omega (arith, volume_of-cons (without_uses c) (cleared later), volume_of-cons c later, volume_of-cleared later)

-- clauses that are dropped add nothing
volume_of-without : (names : List Name) (held : List HeldClause) → volume_of (without_names names held) ≤ volume_of held
volume_of-without names [] = omega arith
volume_of-without names (c ∷ later) =
    let rest = volume_of-without names later in
    cond_both (not (is_among names c.name)) (c ∷ without_names names later) (without_names names later) (λ after. volume_of after ≤ volume_of (c ∷ later))
    (λ kept. omega (arith, rest, volume_of-cons c (without_names names later), volume_of-cons c later))
    (λ dropped. omega (arith, rest, volume_of-cons c later))

none_counted : (state : CoreState) → Counted 0 state state
none_counted state = record { conflicts = omega arith; in_period = omega arith; lemmas = omega arith; period = refl; volume = omega arith }

-- conflicts of two parts, one after the other
joined : (first second sum : ℕ) (state l m : CoreState) → first + second ≡ sum → Counted first state l → Counted second l m → Counted sum state m
joined first second sum state l m is one other = record {
  conflicts = omega arith;
  in_period = omega arith;
  lemmas = omega arith;
  period = cc;
  volume = omega arith;
}

-- a restart has no conflict, and neither has a reduction
reduced_counted : (state : CoreState) → Counted 0 state (reduced state)
reduced_counted state =
    let names = dropped_names state.clauses state.trail in
    cond_both (is_reduction_due state) (after_reduction state) state (Counted 0 state)
    (λ due. record {
      conflicts = omega arith;
      in_period = omega arith;
      lemmas = omega arith;
      period = refl;
      volume = omega (arith, volume_of-cleared (without_names names state.clauses), volume_of-without names state.clauses);
    })
    (λ early. none_counted state)

paced_counted : (state : CoreState) → Counted 0 state (paced state)
paced_counted state =
    let restarted = jumped 0 (with_tempo state) in
    cond_both (is_due state.tempo) (reduced restarted) (with_tempo state) (Counted 0 state)
    (λ due. let r = reduced_counted restarted in record { conflicts = r.conflicts; in_period = r.in_period; lemmas = r.lemmas; period = r.period; volume = r.volume })
    (λ early. record { conflicts = omega arith; in_period = omega arith; lemmas = omega arith; period = refl; volume = omega arith })

taught_counted : (frame : CoreFrame) (state : CoreState) (lesson : Lesson) → CountedTurn state (taught frame state lesson)
taught_counted frame state lesson =
    let one_more = length-append state.lemmas (lemma_of frame state lesson ∷ []) in
    cond_both (level_now state.trail == 0) (record { state = refuted frame lesson state; came_to = Refuted }) (record { state = learnt frame lesson state; came_to = Learnt }) (CountedTurn state)
    (λ root. record { conflicts = refl; in_period = refl; lemmas = one_more; period = refl; volume = omega arith })
    (λ above.
    let after = weighed frame lesson.touched (jumped_back frame lesson state) in
    let one : Counted 1 state after = record {
      conflicts = refl;
      in_period = refl;
      lemmas = one_more;
      period = refl;
      volume = volume_of-held lesson.hints (record { name = (lemma_of frame state lesson).name; lits = lesson.lits; uses = 0 }) state.clauses;
    } in
    joined 1 0 1 state after (paced after) (omega arith) one (paced_counted after))

turn_by_counted : (frame : CoreFrame) (state : CoreState) (o : Option Name) → CountedTurn state (turn_by frame state o)
turn_by_counted frame state None = chosen_counted state (picked frame state)
turn_by_counted frame state (Some conflict) = taught_counted frame state (lesson_of (look_of state) state.trail conflict)

-- propagation has no part in the count
turn_counted : (frame : CoreFrame) (state : CoreState) → CountedTurn state (turn frame state)
turn_counted frame state =
    let p = propagated frame state in
    let c = turn_by_counted frame (record state { trail = p.trail }) p.conflict in
    record { conflicts = c.conflicts; in_period = c.in_period; lemmas = c.lemmas; period = c.period; volume = c.volume }

search_to_conflict_counted : (n : ℕ) (frame : CoreFrame) (state : CoreState) → CountedTurn state (search_to_conflict n frame state)
search_to_conflict_counted zero frame state = none_counted state
search_to_conflict_counted (suc n) frame state = by_end (turn frame state).came_to (turn frame state).state (turn_counted frame state) (search_to_conflict_counted n frame (turn frame state).state)
  where
    by_end : (e : TurnEnd) (l : CoreState) → Counted (conflicts_at e) state l → CountedTurn l (search_to_conflict n frame l) → CountedTurn state (after_turn (search_to_conflict n frame) l e)
    by_end Decided l first rest =
        let end = search_to_conflict n frame l in joined 0 (conflicts_at end.came_to) (conflicts_at end.came_to) state l end.state (omega arith) first rest
    by_end Learnt l first rest = first
    by_end Refuted l first rest = first
    by_end Modelled l first rest = first

-- a state after a stretch of at most so many conflicts
record CountedWithin (quota : ℕ) (before after : CoreState) : Type 0 where
  taken : ℕ
  within : taken ≤ quota
  counted : Counted taken before after

-- ending at the root changes no count
rooted_counted : (n quota : ℕ) (ended : End) (state l : CoreState) → n ≤ quota → Counted n state l → CountedWithin quota state (ended_at_root ended l).state
rooted_counted n quota ended state l few c =
    record { taken = n; within = few; counted = record { conflicts = c.conflicts; in_period = c.in_period; lemmas = c.lemmas; period = c.period; volume = c.volume } }

-- one conflict, and then a stretch of at most so many
one_more_within : (quota : ℕ) (state l m : CoreState) → Counted 1 state l → CountedWithin quota l m → CountedWithin (suc quota) state m
one_more_within quota state l m first rest = record {
  taken = suc rest.taken;
  within = omega arith;
  counted = joined 1 rest.taken (suc rest.taken) state l m (omega arith) first rest.counted;
}

search_to_quota_counted : (quota : ℕ) (frame : CoreFrame) (state : CoreState) → CountedWithin quota state (search_to_quota quota frame state).state
search_to_quota_counted zero frame state = rooted_counted 0 0 Quota state state (omega arith) (none_counted state)
search_to_quota_counted (suc quota) frame state =
    let t = search_to_conflict (frame.variables + 1) frame state in
    by_end t.came_to t.state (search_to_conflict_counted (frame.variables + 1) frame state) (search_to_quota_counted quota frame t.state)
  where
    by_end : (e : TurnEnd) (l : CoreState) → Counted (conflicts_at e) state l → CountedWithin quota l (search_to_quota quota frame l).state →
        CountedWithin (suc quota) state (after_search frame (search_to_quota quota frame) l e).state
    by_end Modelled l first rest = record { taken = 0; within = omega arith; counted = first }
    by_end Refuted l first rest = record { taken = 1; within = omega arith; counted = first }
    by_end Decided l first rest = rooted_counted 0 (suc quota) Spent state l (omega arith) first
    by_end Learnt l first rest =
        cond_both (l.conflicts == frame.limit) (ended_at_root Spent l) (search_to_quota quota frame l) (λ s. CountedWithin (suc quota) state s.state)
        (λ spent. rooted_counted 1 (suc quota) Spent state l (omega arith) first)
        (λ more. one_more_within quota state l (search_to_quota quota frame l).state first rest)

stretch_counted : (frame : CoreFrame) (quota : ℕ) (state : CoreState) → CountedWithin quota state (stretch frame quota state).state
stretch_counted frame quota state =
    cond_both (state.conflicts == frame.limit) (record { state = state; ended = Spent }) (search_to_quota quota frame state) (λ s. CountedWithin quota state s.state)
    (λ spent. record { taken = 0; within = omega arith; counted = none_counted state })
    (λ more. search_to_quota_counted quota frame state)

-- a stretch that ends by its rule
abbrev Ruled : CoreFrame → ℕ → CoreState → Stretched → Type 0
Ruled frame quota state s = EndsByRule frame quota state s.state s.ended

-- a trail that is cut to level 0 is at level 0
root_level : (trail : List Entry) → level_now (cut 0 trail) ≡ 0
root_level trail = omega (arith, level_now-cut-le 0 trail)

-- the rule after one conflict more, which the quota has left
rule_one_more : (frame : CoreFrame) (quota : ℕ) (state l after : CoreState) (ended : End) → Counted 1 state l → EndsByRule frame quota l after ended → EndsByRule frame (suc quota) state after ended
rule_one_more frame quota state l after Quota first rule = (omega arith, rule.1, rule.2)
rule_one_more frame quota state l after Spent first rule = (rule.0, omega arith, rule.2)
rule_one_more frame quota state l after Sat first rule = (omega arith, rule.1)
rule_one_more frame quota state l after Unsat first rule = (omega arith, rule.1)

search_to_quota_ruled : (quota : ℕ) (frame : CoreFrame) (state : CoreState) → state.conflicts < frame.limit → Ruled frame quota state (search_to_quota quota frame state)
search_to_quota_ruled zero frame state left = (omega arith, left, root_level state.trail)
search_to_quota_ruled (suc quota) frame state left =
    let t = search_to_conflict (frame.variables + 1) frame state in
    by_end t.came_to t.state (turns_suffice frame state) (search_to_conflict_counted (frame.variables + 1) frame state) (search_to_quota_ruled quota frame t.state)
  where
    by_end : (e : TurnEnd) (l : CoreState) → (e ≡ Decided → ⊥) → Counted (conflicts_at e) state l → (l.conflicts < frame.limit → Ruled frame quota l (search_to_quota quota frame l)) →
        Ruled frame (suc quota) state (after_search frame (search_to_quota quota frame) l e)
    by_end Modelled l never first further = (omega arith, omega arith)
    by_end Refuted l never first further = (omega arith, omega arith)
    by_end Decided l never first further = absurd (never refl)
    by_end Learnt l never first further =
        cond_both (l.conflicts == frame.limit) (ended_at_root Spent l) (search_to_quota quota frame l) (Ruled frame (suc quota) state)
        (λ spent. (eqb-true _ _ spent, omega arith, root_level l.trail))
        (λ more.
        let below : l.conflicts ≡ frame.limit → ⊥ = eqb-false _ _ more in
        let end = search_to_quota quota frame l in
        rule_one_more frame quota state l end.state end.ended first (further (omega arith)))

-- a stretch with a limit left ends by the rule of its end
pub ends_by_rule : (frame : CoreFrame) (quota : ℕ) (state : CoreState) → state.conflicts < frame.limit → EndsByRule frame quota state (stretch frame quota state).state (stretch frame quota state).ended
ends_by_rule frame quota state left =
    cond_both (state.conflicts == frame.limit) (record { state = state; ended = Spent }) (search_to_quota quota frame state) (Ruled frame quota state)
    (λ spent. let reached : state.conflicts ≡ frame.limit = eqb-true _ _ spent in absurd (omega arith))
    (λ more. search_to_quota_ruled quota frame state left)

-- a stretch has no more conflicts than its quota
pub conflicts_at_most : (frame : CoreFrame) (quota : ℕ) (state : CoreState) → (stretch frame quota state).state.conflicts ≤ state.conflicts + quota
conflicts_at_most frame quota state = let counted = stretch_counted frame quota state in omega arith

-- each conflict of a stretch is counted in all and in the period, and leaves one lemma
pub conflicts_counted : (frame : CoreFrame) (quota : ℕ) (state : CoreState) → CountsConflicts state (stretch frame quota state).state
conflicts_counted frame quota state =
    let of_stretch = (stretch_counted frame quota state).counted in
    record { risen = omega arith; in_period = omega arith; lemmas = omega arith; period = of_stretch.period; volume = omega arith }

-- a core that has spent its limit ends so at once, and stays as it was
spent_stretch : (frame : CoreFrame) (quota : ℕ) (state : CoreState) → state.conflicts ≡ frame.limit → stretch frame quota state ≡ record { state = state; ended = Spent }
spent_stretch frame quota state is = ap (λ b. cond b (let s : Stretched = record { state = state; ended = Spent } in s) (search_to_quota quota frame state)) (eq-eqb state.conflicts frame.limit is)

pub spent_ends : (frame : CoreFrame) (quota : ℕ) (state : CoreState) → state.conflicts ≡ frame.limit → (stretch frame quota state).ended ≡ Spent
spent_ends frame quota state is = ap (λ s. s.ended) (spent_stretch frame quota state is)

pub spent_stays : (frame : CoreFrame) (quota : ℕ) (state : CoreState) → state.conflicts ≡ frame.limit → (stretch frame quota state).state ≡ state
spent_stays frame quota state is = ap (λ s. s.state) (spent_stretch frame quota state is)
