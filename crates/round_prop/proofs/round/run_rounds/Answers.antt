use Rattle.std.proofs.Common.{◌≡◌, ◌+◌, ◌-◌, length, ap, sym, ◌∙◌, subst, arith, All}
use Rattle.lit_base.specs.Literal.{IsWithin}
use Rattle.lit_base.specs.Held.{clauses_of}
use Rattle.lit_base.specs.Rounds.{NamedClause, Propagated, round, rounds, propagate}
use Rattle.trail_book.specs.TrailState.{TrailState}
use Rattle.round_prop.specs.Found.{found_of}
use Rattle.round_prop.specs.Pairs.{pairs_of}
use Rattle.round_prop.specs.Readied.{oldest, IsReady}
use Rattle.round_prop.specs.Spanned.{AreSpanned}
use Rattle.round_prop.proofs.Lasting.{rising_clauses, last_trail, next_seen, few_reads, rounds_last, rounds_on, is_last-told}
use Rattle.round_prop.proofs.TableSteps.{same_rows-trans}
use Rattle.round_prop.proofs.round.run_rounds.Goals as goal

-- a round goes over the same variables
pub run_round-conflict-requires-clause-ready : goal.run_round-conflict-requires-clause-ready
run_round-conflict-requires-clause-ready g c =
    subst (λ saved. IsReady (length saved) (clauses_of c.args.pool.now.held) c.loop.trail.entries (oldest c.loop.from c.loop.trail.entries) c.loop.table) (sym c.loop.invariant.saved) c.loop.invariant.ready

pub run_round-conflict-requires-clause-within : goal.run_round-conflict-requires-clause-within
run_round-conflict-requires-clause-within g c =
    subst (λ saved. All (λ (d : NamedClause). All (IsWithin (length saved)) d.lits) (clauses_of c.args.pool.now.held)) (sym c.loop.invariant.saved) c.requires.within

pub run_round-conflict-requires-clause-finds : goal.run_round-conflict-requires-clause-finds
run_round-conflict-requires-clause-finds g c = c.volume-most.ensures.ordered.found

pub run_round-conflict-requires-clause-rising : goal.run_round-conflict-requires-clause-rising
run_round-conflict-requires-clause-rising g c = rising_clauses c.args.pool.now.held c.volume-most.ensures.ordered.rising

-- propagation ends at this round
ends : (g : _) (c : goal.After-found g) →
    round (clauses_of c.args.pool.now.held) c.loop.trail.entries ≡ propagate (length c.args.trail.now.saved) (clauses_of c.args.pool.now.held) c.args.trail.now.entries
ends g c =
    let clauses = clauses_of c.args.pool.now.held in
    let most = c.from-most.result + 1 in
    let after = ap (λ (t : TrailState). t.entries) c.run_round-conflict.ensures.trail in
    let last =
    sym (is_last-told clauses c.loop.trail.entries c.run_round-conflict.new.trail.entries c.run_round-conflict.result c.len-len.result c.len.result
    c.run_round-conflict.ensures.conflict after c.len-len.ensures.value c.len.ensures.value) ∙ (sym c.is_last.ensures ∙ c.if-is_last.true) in
    sym (rounds_last (most - c.loop.counter) (most - (c.loop.counter + 1)) clauses c.loop.trail.entries (omega arith) last) ∙ c.loop.invariant.rest

unchanged : (g : _) (c : goal.After-found g) → c.run_round-conflict.new.trail.entries ≡ c.loop.trail.entries
unchanged g c =
    let clauses = clauses_of c.args.pool.now.held in
    let after = ap (λ (t : TrailState). t.entries) c.run_round-conflict.ensures.trail in
    let last =
    sym (is_last-told clauses c.loop.trail.entries c.run_round-conflict.new.trail.entries c.run_round-conflict.result c.len-len.result c.len.result
    c.run_round-conflict.ensures.conflict after c.len-len.ensures.value c.len.ensures.value) ∙ (sym c.is_last.ensures ∙ c.if-is_last.true) in
    after ∙ last_trail clauses c.loop.trail.entries last

pub returns-then-is_last-clause-trail : goal.returns-then-is_last-clause-trail
returns-then-is_last-clause-trail g c =
    c.run_round-conflict.ensures.trail
    ∙ (ap (λ saved. let t : TrailState = record { entries = (round (clauses_of c.args.pool.now.held) c.loop.trail.entries).trail; saved = saved } in t) c.loop.invariant.saved
    ∙ ap (λ (p : Propagated). let t : TrailState = record { entries = p.trail; saved = c.args.trail.now.saved } in t) (ends g c))

pub returns-then-is_last-clause-found : goal.returns-then-is_last-clause-found
returns-then-is_last-clause-found g c = c.found.ensures ∙ (ap found_of c.run_round-conflict.ensures.conflict ∙ ap (λ (p : Propagated). found_of p.conflict) (ends g c))

pub returns-then-is_last-clause-ready : goal.returns-then-is_last-clause-ready
returns-then-is_last-clause-ready g c =
    let clauses = clauses_of c.args.pool.now.held in
    let n = length c.args.trail.now.saved in
    subst (λ done. IsReady n clauses c.run_round-conflict.new.trail.entries done c.run_round-conflict.new.table) (sym (unchanged g c))
    (subst (λ saved. IsReady (length saved) clauses c.run_round-conflict.new.trail.entries c.loop.trail.entries c.run_round-conflict.new.table) c.loop.invariant.saved c.run_round-conflict.ensures.ready)

pub returns-then-is_last-clause-rows : goal.returns-then-is_last-clause-rows
returns-then-is_last-clause-rows g c = same_rows-trans c.args.table.now c.loop.table c.run_round-conflict.new.table c.loop.invariant.same c.run_round-conflict.ensures.same

pub returns-then-is_last-clause-few : goal.returns-then-is_last-clause-few
returns-then-is_last-clause-few g c = λ newer is.
    let clauses = clauses_of c.args.pool.now.held in
    let e = ap (λ t. pairs_of clauses t) (unchanged g c) in
    few_reads clauses newer (oldest c.args.seen c.args.trail.now.entries) c.run_round-conflict.new.trail.entries c.args.steps.now c.run_round-conflict.new.steps is
    (omega (arith, e, c.run_round-conflict.ensures.few, c.loop.invariant.few))

-- another round goes on
pub loop-preserved : goal.loop-preserved
loop-preserved g c =
    let clauses = clauses_of c.args.pool.now.held in
    let most = c.from-most.result + 1 in
    let after = ap (λ (t : TrailState). t.entries) c.run_round-conflict.ensures.trail in
    let on =
    sym (is_last-told clauses c.loop.trail.entries c.run_round-conflict.new.trail.entries c.run_round-conflict.result c.len-len.result c.len.result
    c.run_round-conflict.ensures.conflict after c.len-len.ensures.value c.len.ensures.value) ∙ (sym c.is_last.ensures ∙ c.if-is_last.false) in
    let next = next_seen clauses c.loop.trail.entries c.run_round-conflict.new.trail.entries c.len-len.result after c.len-len.ensures.value in
    let e = ap (λ t. pairs_of clauses t) next.0 in
    record {
      saved = ap (λ (t : TrailState). t.saved) c.run_round-conflict.ensures.trail ∙ c.loop.invariant.saved;
      rest =
          ap (λ entries. rounds (most - (c.loop.counter + 1)) clauses entries) after
          ∙ (sym (rounds_on (most - c.loop.counter) (most - (c.loop.counter + 1)) clauses c.loop.trail.entries (omega arith) on) ∙ c.loop.invariant.rest);
      ready =
          subst (λ done. IsReady (length c.args.trail.now.saved) clauses c.run_round-conflict.new.trail.entries done c.run_round-conflict.new.table) (sym next.0)
          (subst (λ saved. IsReady (length saved) clauses c.run_round-conflict.new.trail.entries c.loop.trail.entries c.run_round-conflict.new.table) c.loop.invariant.saved c.run_round-conflict.ensures.ready);
      seen = next.1;
      same = same_rows-trans c.args.table.now c.loop.table c.run_round-conflict.new.table c.loop.invariant.same c.run_round-conflict.ensures.same;
      steps = omega arith;
      few = omega (arith, e, c.run_round-conflict.ensures.few, c.loop.invariant.few);
    }

-- so many rounds never went on, and what stands there is told once more
pub meet-requires-clause-ready : goal.meet-requires-clause-ready
meet-requires-clause-ready g c =
    subst (λ saved. IsReady (length saved) (clauses_of c.args.pool.now.held) c.loop.trail.entries (oldest c.loop.from c.loop.trail.entries) c.loop.table) (sym c.loop.invariant.saved) c.loop.invariant.ready

pub meet-requires-clause-within : goal.meet-requires-clause-within
meet-requires-clause-within g c =
    subst (λ saved. All (λ (d : NamedClause). All (IsWithin (length saved)) d.lits) (clauses_of c.args.pool.now.held)) (sym c.loop.invariant.saved) c.requires.within

pub meet-requires-clause-finds : goal.meet-requires-clause-finds
meet-requires-clause-finds g c = c.volume-most.ensures.ordered.found

pub meet-requires-clause-rising : goal.meet-requires-clause-rising
meet-requires-clause-rising g c = rising_clauses c.args.pool.now.held c.volume-most.ensures.ordered.rising

pub returns-clause-ready : goal.returns-clause-ready
returns-clause-ready g c =
    subst (λ saved. IsReady (length saved) (clauses_of c.args.pool.now.held) c.loop.trail.entries c.loop.trail.entries c.meet.new.table) c.loop.invariant.saved c.meet.ensures.ready

pub returns-clause-rows : goal.returns-clause-rows
returns-clause-rows g c = same_rows-trans c.args.table.now c.loop.table c.meet.new.table c.loop.invariant.same c.meet.ensures.same

pub returns-clause-few : goal.returns-clause-few
returns-clause-few g c = λ newer is.
    few_reads (clauses_of c.args.pool.now.held) newer (oldest c.args.seen c.args.trail.now.entries) c.loop.trail.entries c.args.steps.now c.meet.new.steps is
    (omega (arith, c.meet.ensures.few, c.loop.invariant.few))

-- no row changes
pub run_round-conflict-requires-clause-spanned : goal.run_round-conflict-requires-clause-spanned
run_round-conflict-requires-clause-spanned g c = subst (AreSpanned c.args.pool.now.added) (sym c.loop.invariant.same.rows) c.requires.spanned

pub meet-requires-clause-spanned : goal.meet-requires-clause-spanned
meet-requires-clause-spanned g c = subst (AreSpanned c.args.pool.now.added) (sym c.loop.invariant.same.rows) c.requires.spanned
