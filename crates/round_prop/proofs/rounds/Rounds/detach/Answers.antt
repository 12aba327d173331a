use Rattle.std.proofs.Common.{◌≡◌, Bool, refl, arith, ap, sym, ◌∙◌, subst, rules}
use Rattle.std.specs.Prelude.{not, filter, map, vec_len, vec_capacity}
use Rattle.std.specs.Vec.{with_items}
use Rattle.std.proofs.lemmas.Fn.{filter_same}
use Rattle.lit_base.specs.Held.{is_among, names_without, clauses_without}
use Rattle.round_prop.specs.contracts.rounds.Rounds.{the_view}
use Rattle.round_prop.specs.Attached.{RoundsState, IsAttached, IsAttachedBy}
use Rattle.round_prop.specs.FreshClauses.{clauses_of_fresh}
use Rattle.round_prop.specs.Readied.{row_names}
use Rattle.round_prop.specs.Spanned.{row_for, AreSpanned, IsPlacedIn}
use Rattle.round_prop.specs.declared.row.Row.{Row}
use Rattle.round_prop.specs.declared.fresh.Fresh.{Fresh}
use Rattle.round_prop.specs.declared.short.Short.{Short}
use Rattle.round_prop.proofs.Leaving.{threaded_wide, left_fewer, fresh_left, roomy_left, attached_left}
use Rattle.round_prop.proofs.Spans.{rows_back, all_named, all_spanned}
use Rattle.round_prop.proofs.Respanned.{same_roomy, attached_respanned}
use Rattle.round_prop.proofs.rounds.Rounds.detach.Goals as goal

-- each node that is linked has a list
pub remove-requires-clause-wide : goal.remove-requires-clause-wide
unfolding IsAttached
remove-requires-clause-wide c =
    let to = c.requires.attached in
    let was = subst (λ (r : RoundsState). IsAttachedBy r to.attached to.fresh to.seen) (sym c.self.view_is) to.is in
    threaded_wide c.self.inside.table.links.heads.items c.self.inside.table.links.nodes.items (vec_len c.self.inside.table.links.heads) (omega arith) was.are.table.threaded

-- no two rows have one name
pub remove-requires-clause-apart : goal.remove-requires-clause-apart
unfolding IsAttached
remove-requires-clause-apart c =
    let to = c.requires.attached in
    let was = subst (λ (r : RoundsState). IsAttachedBy r to.attached to.fresh to.seen) (sym c.self.view_is) to.is in
    was.are.apart

-- the short clauses of other names are left
shorts_left : (c : goal.After-retain-2) → c.retain.new.self.items ≡ filter (λ (s : Short). not (is_among c.args.names.now s.name)) c.self.inside.shorts.items
shorts_left c =
    let p : Short → Bool = λ (s : Short). not (is_among c.args.names.now s.name) in
    filter_same _ p _ (λ x b f k. search rules) c.self.inside.shorts.items c.retain.new.self.items c.retain.ensures.filtered

-- and so are the fresh ones
those_left : (c : goal.After-retain-2) → c.retain-2.new.self.items ≡ filter (λ (f : Fresh). not (is_among c.args.names.now f.name)) c.self.inside.fresh.items
those_left c =
    let p : Fresh → Bool = λ (f : Fresh). not (is_among c.args.names.now f.name) in
    filter_same _ p _ (λ x b f k. search rules) c.self.inside.fresh.items c.retain-2.new.self.items c.retain-2.ensures.filtered

-- the rows that were found anew have the names of those that are left
items_are : (c : goal.After-retain-2) → (with_items c.remove.new.self.rows c.find_rows.new.rows).items ≡ map (λ (r : Row). row_for c.args.pool.now.added r.name) c.remove.new.self.rows.items
items_are c =
    rows_back c.remove.new.self.rows c.deref_mut.result.now c.find_rows.new.rows (λ (r : Row). row_for c.args.pool.now.added r.name) c.deref_mut.ensures.value c.deref_mut.ensures.len c.find_rows.ensures

names_are : (c : goal.After-retain-2) → row_names (with_items c.remove.new.self.rows c.find_rows.new.rows).items ≡ row_names c.remove.new.self.rows.items
names_are c = ap row_names (items_are c) ∙ all_named c.args.pool.now.added c.remove.new.self.rows.items

-- as much room is left
pub invariant_of-self : goal.invariant_of-self
unfolding IsAttached
invariant_of-self c =
    let to = c.requires.attached in
    let was = subst (λ (r : RoundsState). IsAttachedBy r to.attached to.fresh to.seen) (sym c.self.view_is) to.is in
    let fewer_shorts = left_fewer (λ (s : Short). not (is_among c.args.names.now s.name)) c.self.inside.shorts.items c.retain.new.self.items (shorts_left c) in
    let fewer_fresh = left_fewer (λ (f : Fresh). not (is_among c.args.names.now f.name)) c.self.inside.fresh.items c.retain-2.new.self.items (those_left c) in (
      same_roomy c.remove.new.self (with_items c.remove.new.self.rows c.find_rows.new.rows) (names_are c) c.self.inside.variables (vec_len c.retain.new.self) (vec_capacity c.retain.new.self)
          (vec_len c.retain-2.new.self) refl refl
          (roomy_left c.self.inside.variables c.self.inside.table c.remove.new.self c.args.names.now (vec_len c.self.inside.shorts) (vec_capacity c.self.inside.shorts) (vec_len c.self.inside.fresh)
          (vec_len c.retain.new.self) (vec_capacity c.retain.new.self) (vec_len c.retain-2.new.self) (clauses_without c.args.names.now to.attached) to.seen to.seen c.self.invariant.0
          (c.remove.ensures.table to.attached to.seen to.seen was.are.table) c.remove.ensures.rows c.remove.ensures.load c.remove.ensures.room (omega (arith, fewer_shorts))
          c.retain.ensures.capacity (omega (arith, fewer_fresh))),
      c.self.invariant.1,
      c.self.invariant.2,
    )

-- the clauses of the names have left
pub returns-clause-attached : goal.returns-clause-attached
unfolding IsAttached
returns-clause-attached c = λ attached fresh seen is.
    let was = subst (λ (r : RoundsState). IsAttachedBy r attached fresh seen) (sym c.self.view_is) is in
    let left =
    the_view (record {
      variables = c.self.inside.variables;
      table = c.remove.new.self;
      shorts = c.retain.new.self;
      fresh = c.retain-2.new.self;
      pool = c.self.inside.pool;
      seen = c.self.inside.seen;
      trail = c.self.inside.trail;
    }) in
    attached_respanned left (with_items c.remove.new.self.rows c.find_rows.new.rows) (clauses_without c.args.names.now attached) (names_without c.args.names.now fresh) seen (names_are c)
    (attached_left (the_view c.self.inside) left c.args.names.now attached fresh seen c.remove.ensures.table c.remove.ensures.rows c.remove.ensures.notes (shorts_left c)
    (ap clauses_of_fresh (those_left c) ∙ fresh_left c.args.names.now c.self.inside.fresh.items) refl refl was)

-- each row tells where its clause stands
pub returns-clause-placed : goal.returns-clause-placed
unfolding IsPlacedIn
returns-clause-placed c = subst (AreSpanned c.args.pool.now.added) (sym (items_are c)) (all_spanned c.args.pool.now.added c.remove.new.self.rows.items)
