use Rattle.std.proofs.Common.{◌≡◌, ◌+◌, ◌<◌, ◌∷◌, false, length, reverse, ap, sym, ◌∙◌, subst, arith}
use Rattle.std.specs.Vec.{with_items}
use Rattle.std.proofs.lemmas.List.{length-reverse, length_push}
use Rattle.lit_base.specs.Held.{is_original}
use Rattle.clause_pool.specs.Slots.{clauses_in}
use Rattle.clause_pool.specs.Links.{IsTable}
use Rattle.clause_pool.proofs.Volume.{volume_of-le, weight-le}
use Rattle.clause_pool.proofs.Rows.{rows_length, rows_relinked}
use Rattle.clause_pool.proofs.Adding.{on_err, is_relinked, table_relinked, long_as_before, is_added, rows_after, table_after}
use Rattle.clause_pool.proofs.table.Table.add.Goals as goal

-- links alone changed where there is no memory for more chains
pub invariant_of-self-in_err-more_chains : goal.invariant_of-self-in_err-more_chains
invariant_of-self-in_err-more_chains c =
    let room = c.make_room in
    let relinked = is_relinked room.new.slots c.deref_mut.result.now c.more_chains.new.slots c.self.inside.slots.items c.more_chains.new.heads.items c.more_chains.ensures.slots c.deref_mut.ensures.value
    room.ensures.slots c.deref_mut.ensures.len c.more_chains.ensures.linked in
    subst (λ literals. IsTable literals (reverse (with_items room.new.slots c.more_chains.new.slots).items) (length room.new.flags.items) c.more_chains.new.heads.items c.self.inside.volume)
    (sym room.ensures.literals)
    (subst (λ flags. IsTable c.self.inside.literals.items (reverse (with_items room.new.slots c.more_chains.new.slots).items) (length flags) c.more_chains.new.heads.items c.self.inside.volume)
    (sym room.ensures.flags)
    (table_relinked c.self.inside.literals.items c.self.inside.slots.items (with_items room.new.slots c.more_chains.new.slots).items (length c.self.inside.flags.items) c.self.inside.heads.items
    c.more_chains.new.heads.items c.self.inside.volume c.self.invariant relinked.same c.more_chains.ensures.more relinked.few))

pub returns-in_err-more_chains-clause-err : goal.returns-in_err-more_chains-clause-err
returns-in_err-more_chains-clause-err c =
    let room = c.make_room in
    let relinked = is_relinked room.new.slots c.deref_mut.result.now c.more_chains.new.slots c.self.inside.slots.items c.more_chains.new.heads.items c.more_chains.ensures.slots c.deref_mut.ensures.value
    room.ensures.slots c.deref_mut.ensures.len c.more_chains.ensures.linked in
    on_err c.from_residual-in_err-more_chains.result
    (ap (λ literals. clauses_in literals (reverse (with_items room.new.slots c.more_chains.new.slots).items)) room.ensures.literals
    ∙ (rows_relinked c.self.inside.literals.items c.self.inside.slots.items (with_items room.new.slots c.more_chains.new.slots).items relinked.same ∙ c.self.view_is))

-- there are at most as many lemmas as slots
pub overflow_add-self : goal.overflow_add-self
overflow_add-self c =
    let few = volume_of-le (clauses_in c.self.inside.literals.items (reverse c.self.inside.slots.items)) in
    let rows = rows_length c.self.inside.literals.items (reverse c.self.inside.slots.items) in
    let size = length-reverse c.self.inside.slots.items in
    let weight = weight-le (is_original c.args.name) in
    omega (arith, few, rows, size, weight, c.self.invariant.counted, c.weight_of.ensures, ap length c.make_room.ensures.slots, ap length c.deref_mut.ensures.value, c.deref_mut.type_inv)

-- the table has one slot more
pub invariant_of-self-2 : goal.invariant_of-self-2
invariant_of-self-2 c =
    let relinked = is_relinked c.make_room.new.slots c.deref_mut.result.now c.more_chains.new.slots c.self.inside.slots.items c.more_chains.new.heads.items c.more_chains.ensures.slots
    c.deref_mut.ensures.value c.make_room.ensures.slots c.deref_mut.ensures.len c.more_chains.ensures.linked in
    let added = is_added c.make_room.new.slots c.more_chains.new.heads _ _ _ _ _ _ _ _ _ _ _ _ _ relinked c.make_room.ensures.literals c.put_literals-end.ensures.literals c.put_literals-end.ensures.end c.push_reserved.ensures.items
    (c.len.ensures ∙ sym relinked.size) c.begin_chain-link.ensures.within c.begin_chain-link.ensures.link c.begin_chain-link.ensures.heads c.deref_mut-2.ensures.value c.deref_mut-2.ensures.len in
    let heads : length (with_items c.more_chains.new.heads c.begin_chain-link.new.heads).items ≡ c.more_chains.new.heads.len =
    long_as_before c.more_chains.new.heads c.begin_chain-link.new.heads (ap length (sym c.deref_mut-2.ensures.value) ∙ c.deref_mut-2.ensures.len) in
    let some : 0 < length (with_items c.more_chains.new.heads c.begin_chain-link.new.heads).items = omega (arith, heads, c.in_ok-more_chains.ensures.some, ap length c.deref_mut-2.ensures.value, c.deref_mut-2.ensures.len) in
    let flags : length c.self.inside.flags.items + 1 ≡ length c.push_reserved-2.new.self.items =
    omega (arith, ap length c.push_reserved-2.ensures.items, length_push c.make_room.new.flags.items false, ap length c.make_room.ensures.flags) in
    subst (λ n. IsTable c.put_literals-end.new.literals.items (reverse c.push_reserved.new.self.items) n (with_items c.more_chains.new.heads c.begin_chain-link.new.heads).items (c.self.inside.volume + c.weight_of.result))
    flags (table_after _ _ _ _ _ _ _ _ _ _ _ _ _ c.self.invariant added some c.weight_of.ensures)

-- it is that of the clause
pub returns-clause-ok : goal.returns-clause-ok
returns-clause-ok c =
    let relinked = is_relinked c.make_room.new.slots _ _ c.self.inside.slots.items _ c.more_chains.ensures.slots c.deref_mut.ensures.value c.make_room.ensures.slots c.deref_mut.ensures.len
    c.more_chains.ensures.linked in
    rows_after _ _ _ _ _ _ _ _ _ c.self.invariant.arena
    (is_added c.make_room.new.slots c.more_chains.new.heads _ _ _ _ _ _ _ _ _ _ _ _ _ relinked c.make_room.ensures.literals c.put_literals-end.ensures.literals c.put_literals-end.ensures.end c.push_reserved.ensures.items
    (c.len.ensures ∙ sym relinked.size) c.begin_chain-link.ensures.within c.begin_chain-link.ensures.link c.begin_chain-link.ensures.heads c.deref_mut-2.ensures.value c.deref_mut-2.ensures.len)
    ∙ ap (λ rows. record { name = c.args.name; lits = c.args.lits.now; uses = 0 } ∷ rows) c.self.view_is
