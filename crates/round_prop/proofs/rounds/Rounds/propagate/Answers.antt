use Rattle.std.proofs.Common.{◌≡◌, ◌++◌, List, length, refl, ap, sym, ◌∙◌, subst, arith}
use Rattle.std.specs.Prelude.{reverse, vec_len, vec_capacity}
use Rattle.std.proofs.lemmas.List.{length-map, length-reverse}
use Rattle.lit_base.specs.Held.{clauses_of, names_of}
use Rattle.lit_base.specs.Fits.{HasDistinctVariables}
use Rattle.lit_base.specs.declared.trail.Entry.{Entry}
use Rattle.clause_pool.specs.Spans.{PoolState}
use Rattle.trail_book.specs.TrailState.{TrailState}
use Rattle.round_prop.specs.contracts.rounds.Rounds.{the_view}
use Rattle.round_prop.specs.Attached.{RoundsState, IsAttached, IsAttachedBy, AreRoomy}
use Rattle.round_prop.specs.FreshClauses.{clauses_of_fresh}
use Rattle.round_prop.specs.Readied.{IsReady, oldest}
use Rattle.round_prop.specs.Spanned.{AreSpanned, IsPlacedIn}
use Rattle.round_prop.specs.declared.fresh.Fresh.{Fresh}
use Rattle.round_prop.proofs.Beginning.{fresh_names-are, attached_ready, ready_attached, roomy_after, lits_in-last}
use Rattle.round_prop.proofs.Serving.{attached_fields, attached_whole, seen_inside, seen_oldest}
use Rattle.round_prop.proofs.rounds.Rounds.propagate.Goals as goal

pub begin_fresh-requires-clause-attached : goal.begin_fresh-requires-clause-attached
begin_fresh-requires-clause-attached g c = (
  c.requires.attached.seen,
  attached_whole (the_view c.self.inside) c.args.self.now (clauses_of c.args.pool.now.held) c.args.trail.now.entries c.self.view_is c.requires.attached c.self.inside.fresh.items refl c.len.ensures.trail.distinct,
)

-- the variables are the trail's
pub begin_fresh-requires-clause-roomy : goal.begin_fresh-requires-clause-roomy
begin_fresh-requires-clause-roomy g c =
    subst (λ n. AreRoomy n c.self.inside.table (vec_len c.self.inside.shorts) (vec_capacity c.self.inside.shorts) (vec_len c.self.inside.fresh))
    (ap (λ (r : RoundsState). r.variables) c.self.view_is ∙ c.requires.variables) c.self.invariant.0

-- the entries that were seen are the oldest
pub run_rounds-found-requires-clause-ready : goal.run_rounds-found-requires-clause-ready
run_rounds-found-requires-clause-ready g c =
    let r = the_view c.self.inside in
    let clauses = clauses_of c.args.pool.now.held in
    let n = length c.args.trail.now.saved in
    let to = c.requires.attached in
    let whole = attached_whole r c.args.self.now clauses c.args.trail.now.entries c.self.view_is to c.self.inside.fresh.items refl c.len.ensures.trail.distinct in
    subst (λ (done : List Entry). IsReady n clauses c.args.trail.now.entries done c.begin_fresh.new.table)
    (sym (seen_oldest r c.args.self.now clauses c.args.trail.now.entries c.self.view_is to c.self.inside.seen c.self.invariant.1))
    (attached_ready n clauses c.args.trail.now.entries to.seen c.begin_fresh.new.table c.begin_fresh.new.shorts.items (vec_len c.begin_fresh.new.shorts) (vec_capacity c.begin_fresh.new.shorts)
    (c.begin_fresh.ensures.attached to.seen whole) c.begin_fresh.ensures.roomy)

pub run_rounds-found-requires-clause-seen : goal.run_rounds-found-requires-clause-seen
run_rounds-found-requires-clause-seen g c =
    seen_inside (the_view c.self.inside) c.args.self.now (clauses_of c.args.pool.now.held) c.args.trail.now.entries c.self.view_is c.requires.attached c.self.inside.seen c.self.invariant.1

-- rows tell where their clauses stand
pub run_rounds-found-requires-clause-spanned : goal.run_rounds-found-requires-clause-spanned
unfolding IsPlacedIn
run_rounds-found-requires-clause-spanned g c =
    c.begin_fresh.ensures.spanned (subst (λ (r : RoundsState). IsPlacedIn r c.args.pool.now.added) (sym c.self.view_is) c.requires.placed)

-- as much room is left, and the whole trail was seen
pub invariant_of-self : goal.invariant_of-self
invariant_of-self g c =
    let trail = ap (λ (t : TrailState). t.entries) c.of-2.ensures in
    let shorts = vec_len c.begin_fresh.new.shorts in
    let most = vec_capacity c.begin_fresh.new.shorts in
    let none : 0 ≡ vec_len c.begin_fresh.new.fresh = omega (arith, ap length c.begin_fresh.ensures.none) in
    let roomy = roomy_after (length c.args.trail.now.saved) (clauses_of c.args.pool.now.held) c.run_rounds-found.new.trail.entries c.begin_fresh.new.table c.run_rounds-found.new.table
    shorts most c.begin_fresh.ensures.roomy c.run_rounds-found.ensures.ready c.run_rounds-found.ensures.rows in (
      subst (λ n. AreRoomy c.self.inside.variables c.run_rounds-found.new.table shorts most n) none
          (subst (λ n. AreRoomy n c.run_rounds-found.new.table shorts most 0) (sym (ap (λ (r : RoundsState). r.variables) c.self.view_is ∙ c.requires.variables)) roomy),
      c.len-self-inside.ensures.value ∙ ap length (sym trail),
      subst HasDistinctVariables (sym trail) c.len-self-inside.ensures.trail.distinct,
    )

-- exactly the held clauses are attached, none of them is fresh, and the whole trail was seen
pub returns-clause-propagated : goal.returns-clause-propagated
unfolding IsAttached IsPlacedIn
returns-clause-propagated g c =
    let clauses = clauses_of c.args.pool.now.held in
    let n = length c.args.trail.now.saved in
    let to = c.requires.attached in
    let none = ap clauses_of_fresh c.begin_fresh.ensures.none in
    let whole = attached_whole (the_view c.self.inside) c.args.self.now clauses c.args.trail.now.entries c.self.view_is to c.self.inside.fresh.items refl c.len.ensures.trail.distinct in
    let after =
    ready_attached n clauses c.args.trail.now.entries c.run_rounds-found.new.trail.entries to.seen c.begin_fresh.new.table c.run_rounds-found.new.table c.begin_fresh.new.shorts.items
    (c.begin_fresh.ensures.attached to.seen whole) c.run_rounds-found.ensures.ready c.run_rounds-found.ensures.rows in
    record {
      trail = c.run_rounds-found.ensures.trail;
      answer = c.run_rounds-found.ensures.found;
      attached = record {
        fresh_are = ap names_of none;
        seen_are = ap (λ (t : TrailState). t.entries) c.of-2.ensures;
        found = λ name.
            lits_in-last
            (the_view (record {
              variables = c.self.inside.variables;
              table = c.run_rounds-found.new.table;
              shorts = c.begin_fresh.new.shorts;
              fresh = c.begin_fresh.new.fresh;
              pool = c.of.result;
              seen = c.len-self-inside.result;
              trail = c.of-2.result;
            }))
            clauses c.run_rounds-found.new.trail.entries name none (ap (λ (p : PoolState). clauses_of p.held) c.of.ensures) after.known;
        distinct = c.len-self-inside.ensures.trail.distinct;
        are = after;
      };
      placed = subst (AreSpanned c.args.pool.now.added) (sym c.run_rounds-found.ensures.rows.rows) (c.begin_fresh.ensures.spanned (subst (λ (r : RoundsState). IsPlacedIn r c.args.pool.now.added) (sym c.self.view_is) c.requires.placed));
      variables = ap (λ (r : RoundsState). r.variables) c.self.view_is ∙ c.requires.variables;
    }

-- each fresh clause was read once, and else at most each pair
pub returns-clause-few : goal.returns-clause-few
unfolding IsAttached
returns-clause-few g c = λ fresh seen newer is front.
    let r = the_view c.self.inside in
    let clauses = clauses_of c.args.pool.now.held in
    let to = c.requires.attached in
    let was = attached_fields r c.args.self.now clauses c.args.trail.now.entries c.self.view_is to in
    let one = subst (λ (s : RoundsState). IsAttachedBy s clauses fresh seen) (sym c.self.view_is) is in
    let old : oldest c.self.inside.seen c.args.trail.now.entries ≡ seen =
    seen_oldest r c.args.self.now clauses c.args.trail.now.entries c.self.view_is to c.self.inside.seen c.self.invariant.1 ∙ (sym was.seen_are ∙ one.seen_are) in
    let most = c.run_rounds-found.ensures.few newer (front ∙ ap (λ entries. newer ++ entries) (sym old)) in
    let count : length fresh ≡ length c.self.inside.fresh.items =
    ap length (sym one.fresh_are ∙ fresh_names-are c.self.inside.fresh.items)
    ∙ (length-map (reverse c.self.inside.fresh.items) (λ (f : Fresh). f.name) ∙ length-reverse c.self.inside.fresh.items) in
    omega (arith, most, count, c.begin_fresh.ensures.steps)
