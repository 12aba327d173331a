use Rattle.std.proofs.Common.{◌+◌, ap, sym, ◌∙◌, subst, arith}
use Rattle.lit_base.specs.Literal.{Literal}
use Rattle.lit_base.specs.Held.{clauses_of}
use Rattle.round_prop.specs.Pairs.{occurrences_of, pairs_of}
use Rattle.round_prop.specs.Readied.{row_names, oldest, AreNamedApart, IsTable}
use Rattle.round_prop.specs.Spanned.{AreSpanned}
use Rattle.round_prop.proofs.OldestSteps.{trail_step, oldest_more, oldest_all}
use Rattle.round_prop.proofs.TableSteps.{same_rows-trans, same_rows-refl}
use Rattle.round_prop.proofs.walk.gather.Goals as goal

pub loop-place-init : goal.loop-place-init
loop-place-init g c = record { table = c.requires.table; same = same_rows-refl c.args.table.now; noted = λ name noted. noted; steps = omega arith; few = λ apart. omega arith }

-- the entry at the place makes the literal false
pub walk-requires-clause-walk : goal.walk-requires-clause-walk
walk-requires-clause-walk g c =
    let trail = c.args.trail.now.entries in
    let place = c.loop-place.place in
    record { done = oldest place trail; next = oldest (place + 1) trail; step = trail_step trail place c.entry.result c.negated.result c.len-place-end.ensures.trail.distinct c.entry.ensures.value c.negated.ensures; table = c.loop-place.invariant.table }

pub walk-requires-clause-own : goal.walk-requires-clause-own
walk-requires-clause-own g c = let e = ap (λ (l : Literal). l.variable) c.negated.ensures in omega (arith, e, c.entry.ensures.within.1)

pub walk-requires-clause-wide : goal.walk-requires-clause-wide
walk-requires-clause-wide g c = c.loop-place.invariant.same.heads ∙ c.requires.wide

pub walk-requires-clause-room : goal.walk-requires-clause-room
walk-requires-clause-room g c = omega (arith, c.loop-place.invariant.same.load, c.loop-place.invariant.same.notes_room, c.requires.room)

pub loop-place-preserved : goal.loop-place-preserved
loop-place-preserved g c =
    let trail = c.args.trail.now.entries in
    let clauses = clauses_of c.args.pool.now.held in
    let place = c.loop-place.place in
    let step = trail_step trail place c.entry.result c.negated.result c.len-place-end.ensures.trail.distinct c.entry.ensures.value c.negated.ensures in
    record {
      table = c.walk.ensures.table (oldest place trail) (oldest (place + 1) trail) step c.loop-place.invariant.table;
      same = same_rows-trans c.args.table.now c.loop-place.table c.walk.new.table c.loop-place.invariant.same c.walk.ensures.same;
      noted = λ name noted. c.walk.ensures.noted name (c.loop-place.invariant.noted name noted);
      steps = omega (arith, c.loop-place.invariant.steps, c.walk.ensures.steps);
      few = λ apart.
          let more = ap (λ t. pairs_of clauses t) (oldest_more trail place c.entry.result c.entry.ensures.value) in
          let own = ap (λ l. occurrences_of l clauses) c.negated.ensures in
          let here = c.walk.ensures.few (subst (λ rs. AreNamedApart (row_names rs)) (sym c.loop-place.invariant.same.rows) apart) in
          let before = c.loop-place.invariant.few apart in
          omega (arith, more, own, here, before);
    }

pub returns-clause-table : goal.returns-clause-table
returns-clause-table g c =
    subst (λ done. IsTable (clauses_of c.args.pool.now.held) c.args.trail.now.entries done c.loop-place.table) (oldest_all c.loop-place.place c.args.trail.now.entries (omega (arith, c.loop-place-test.false, c.len-place-end.ensures.value))) c.loop-place.invariant.table

pub returns-clause-few : goal.returns-clause-few
returns-clause-few g c = λ apart.
    let all = ap (λ t. pairs_of (clauses_of c.args.pool.now.held) t) (oldest_all c.loop-place.place c.args.trail.now.entries (omega (arith, c.loop-place-test.false, c.len-place-end.ensures.value))) in
    let most = c.loop-place.invariant.few apart in
    omega (arith, all, most)

-- no row changes
pub walk-requires-clause-spanned : goal.walk-requires-clause-spanned
walk-requires-clause-spanned g c = subst (AreSpanned c.args.pool.now.added) (sym c.loop-place.invariant.same.rows) c.requires.spanned
