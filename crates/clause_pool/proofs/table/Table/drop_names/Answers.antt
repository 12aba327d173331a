use Rattle.std.proofs.Common.{◌≡◌, length, reverse, refl, ap, sym, ◌∙◌, subst, arith}
use Rattle.std.specs.Vec.{with_items}
use Rattle.std.proofs.lemmas.List.{length-map, length-reverse, length-take-le, with_items_is}
use Rattle.lit_base.specs.Held.{is_among, without_names}
use Rattle.clause_pool.specs.Slots.{slot_names, AreApart}
use Rattle.clause_pool.specs.Links.{IsLinked}
use Rattle.clause_pool.proofs.Rows.{rows_relinked}
use Rattle.clause_pool.proofs.Placing.{apart_read}
use Rattle.clause_pool.proofs.Adding.{is_relinked}
use Rattle.clause_pool.proofs.Dropping.{kept_by_names, flags_written, table_dropped}
use Rattle.clause_pool.proofs.table.Table.drop_names.Goals as goal

-- no two slots have the same name
pub flag-requires-clause-apart : goal.flag-requires-clause-apart
flag-requires-clause-apart c =
    subst (λ items. AreApart (slot_names (reverse items))) (sym c.deref-2.ensures.value)
    (apart_read c.self.inside.literals.items c.self.inside.slots.items c.args.self.now c.self.view_is c.requires)

-- the slots that are left are linked, and have their flags
pub invariant_of-self : goal.invariant_of-self
invariant_of-self c =
    let inside = c.self.inside in
    let packed = c.pack-self-inside in
    let heads : (with_items inside.heads c.link_all.new.heads).items ≡ c.link_all.new.heads = with_items_is inside.heads c.link_all.new.heads (c.link_all.ensures.size ∙ c.deref_mut-2.ensures.len) in
    let relinked = is_relinked packed.new.slots c.deref_mut-3.result.now c.link_all.new.slots packed.new.slots.items (with_items inside.heads c.link_all.new.heads).items c.link_all.ensures.slots
    c.deref_mut-3.ensures.value refl c.deref_mut-3.ensures.len
    (λ few. subst (λ hs. IsLinked hs (reverse c.link_all.new.slots)) (sym heads) (c.link_all.ensures.linked few)) in
    let flags = flags_written inside.flags inside.slots.items c.deref-2.result.now c.deref_mut.result.now c.flag.new.flags c.args.names.now c.deref-2.ensures.value c.flag.ensures
    c.deref_mut.ensures.value c.deref_mut.ensures.len c.self.invariant.flagged in
    let all : length (with_items inside.flags c.flag.new.flags).items ≡ length inside.slots.items = ap length flags ∙ length-map inside.slots.items (λ s. is_among c.args.names.now s.name) in
    let left : c.len.result ≡ length packed.new.slots.items = omega (arith, c.len.ensures, ap length c.deref_mut-3.ensures.value, c.deref_mut-3.ensures.len) in
    let cut : length c.truncate.new.self.items ≡ c.len.result =
    ap length c.truncate.ensures.items ∙ length-take-le c.len.result (with_items inside.flags c.flag.new.flags).items (omega (arith, left, all, packed.ensures.size)) in
    table_dropped packed.new.literals.items packed.new.slots.items (with_items packed.new.slots c.link_all.new.slots).items (length c.truncate.new.self.items)
    (with_items inside.heads c.link_all.new.heads).items packed.result packed.ensures.arena packed.ensures.volume relinked.same (cut ∙ left)
    (λ some.
    let chains = c.self.invariant.some (omega (arith, some, packed.ensures.size, length-reverse inside.slots.items)) in
    omega (arith, chains, ap length heads, c.link_all.ensures.size, ap length c.deref_mut-2.ensures.value))
    relinked.few

-- they are those without the names
pub returns : goal.returns
returns c =
    let inside = c.self.inside in
    let packed = c.pack-self-inside in
    let relinked = is_relinked packed.new.slots c.deref_mut-3.result.now c.link_all.new.slots packed.new.slots.items c.link_all.new.heads c.link_all.ensures.slots
    c.deref_mut-3.ensures.value refl c.deref_mut-3.ensures.len c.link_all.ensures.linked in
    let flags = flags_written inside.flags inside.slots.items c.deref-2.result.now c.deref_mut.result.now c.flag.new.flags c.args.names.now c.deref-2.ensures.value c.flag.ensures
    c.deref_mut.ensures.value c.deref_mut.ensures.len c.self.invariant.flagged in
    rows_relinked packed.new.literals.items packed.new.slots.items (with_items packed.new.slots c.link_all.new.slots).items relinked.same
    ∙ (packed.ensures.rows
    ∙ (kept_by_names inside.literals.items inside.slots.items inside.slots.items c.deref-3.result.now c.args.names.now refl (c.deref-3.ensures.value ∙ flags) ∙ ap (without_names c.args.names.now) c.self.view_is))
