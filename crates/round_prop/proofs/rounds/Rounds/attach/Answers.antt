use Rattle.std.proofs.Common.{◌≡◌, refl, ◌∷◌, ap, sym, ◌∙◌, subst, arith}
use Rattle.std.specs.Prelude.{◌+◌, List, vec_len, vec_capacity}
use Rattle.lit_base.specs.Literal.{Literal}
use Rattle.lit_base.specs.Held.{clauses_of}
use Rattle.lit_base.specs.Named.{lits_at}
use Rattle.lit_base.specs.Rounds.{NamedClause}
use Rattle.clause_pool.specs.Spans.{PoolState}
use Rattle.round_prop.specs.contracts.rounds.Rounds.{the_view}
use Rattle.round_prop.specs.Attached.{RoundsState, IsAttached, IsAttachedBy, AreRoomy}
use Rattle.round_prop.specs.Spanned.{AreSpanned, IsPlacedIn}
use Rattle.round_prop.specs.FreshClauses.{found_lits, clause_of_fresh, clauses_of_fresh}
use Rattle.round_prop.specs.declared.fresh.Fresh.{Fresh}
use Rattle.round_prop.proofs.Arriving.{attached_more, attached_same, fresh_last, on_err_always}
use Rattle.round_prop.proofs.rounds.Rounds.attach.Goals as goal

pub make_room-requires : goal.make_room-requires
make_room-requires c = (c.self.inside.variables, c.self.invariant.0)

pub invariant_of-self : goal.invariant_of-self
invariant_of-self c = (c.in_err-make_room.ensures.kept c.self.inside.variables c.self.invariant.0, c.self.invariant.1, c.self.invariant.2)

pub invariant_of-self-2 : goal.invariant_of-self-2
invariant_of-self-2 c =
    let table = c.make_room.new.table in
    let shorts = c.make_room.new.shorts in
    let long : vec_len c.make_room.new.fresh + 1 ≡ vec_len c.push_reserved.new.self = omega (arith, c.push_reserved.ensures.len) in (
      subst (λ n. AreRoomy c.self.inside.variables table (vec_len shorts) (vec_capacity shorts) n) long (c.in_ok-make_room.ensures.more c.self.inside.variables c.self.invariant.0),
      c.self.invariant.1,
      c.self.invariant.2,
    )

-- its literals are those that the pool gives
pub returns-clause-attached : goal.returns-clause-attached
unfolding IsAttached
returns-clause-attached c = λ attached fresh seen lits is found free.
    let was = subst (λ (r : RoundsState). IsAttachedBy r attached fresh seen) (sym c.self.view_is) is in
    let one : Fresh = record { name = c.args.name; pool = c.of-pool.result } in
    let of_pool = ap (λ (p : PoolState). found_lits (lits_at (clauses_of p.held) c.args.name)) c.of-pool.ensures ∙ ap found_lits found in
    let clause : clause_of_fresh one ≡ record { name = c.args.name; lits = lits } =
    ap (λ (ls : List Literal). let d : NamedClause = record { name = c.args.name; lits = ls } in d) of_pool in
    let arrives =
    ap clauses_of_fresh c.push_reserved.ensures.items
    ∙ (fresh_last c.make_room.new.fresh.items one
    ∙ (ap (λ (d : NamedClause). d ∷ clauses_of_fresh c.make_room.new.fresh.items) clause
    ∙ ap (λ fs. record { name = c.args.name; lits = lits } ∷ clauses_of_fresh fs) c.in_ok-make_room.ensures.fresh)) in
    attached_more (the_view c.self.inside)
    (the_view (record {
      variables = c.self.inside.variables;
      table = c.make_room.new.table;
      shorts = c.make_room.new.shorts;
      fresh = c.push_reserved.new.self;
      pool = c.self.inside.pool;
      seen = c.self.inside.seen;
      trail = c.self.inside.trail;
    }))
    (record { name = c.args.name; lits = lits }) attached fresh seen c.in_ok-make_room.ensures.table c.in_ok-make_room.ensures.shorts arrives refl refl free was

-- nothing has changed but room
pub returns-in_err-make_room-clause-err : goal.returns-in_err-make_room-clause-err
unfolding IsAttached
returns-in_err-make_room-clause-err c = on_err_always c.from_residual.result
    (λ attached fresh seen is.
    let was = subst (λ (r : RoundsState). IsAttachedBy r attached fresh seen) (sym c.self.view_is) is in
    attached_same (the_view c.self.inside)
    (the_view (record {
      variables = c.self.inside.variables;
      table = c.make_room.new.table;
      shorts = c.make_room.new.shorts;
      fresh = c.make_room.new.fresh;
      pool = c.self.inside.pool;
      seen = c.self.inside.seen;
      trail = c.self.inside.trail;
    }))
    attached fresh seen c.in_err-make_room.ensures.table c.in_err-make_room.ensures.shorts (ap clauses_of_fresh c.in_err-make_room.ensures.fresh) refl refl was)

-- no row changes
pub returns-in_err-make_room-clause-placed : goal.returns-in_err-make_room-clause-placed
unfolding IsPlacedIn
returns-in_err-make_room-clause-placed c = λ added placed. subst (AreSpanned added) (sym c.in_err-make_room.ensures.table.rows) (subst (λ (r : RoundsState). IsPlacedIn r added) (sym c.self.view_is) placed)

pub returns-clause-placed : goal.returns-clause-placed
unfolding IsPlacedIn
returns-clause-placed c = λ added placed. subst (AreSpanned added) (sym c.in_ok-make_room.ensures.table.rows) (subst (λ (r : RoundsState). IsPlacedIn r added) (sym c.self.view_is) placed)
