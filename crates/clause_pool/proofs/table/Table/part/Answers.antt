use Rattle.std.proofs.Common.{length, reverse, ap, sym, ◌∙◌, arith}
use Rattle.std.specs.Prelude.{slice_range}
use Rattle.clause_pool.specs.Slots.{ends_of}
use Rattle.clause_pool.specs.Spans.{laid, lits_of}
use Rattle.clause_pool.proofs.Parts.{arena_size}
use Rattle.clause_pool.proofs.Laying.{laid_arena}
use Rattle.clause_pool.proofs.Rows.{lits_of-rows}
use Rattle.clause_pool.proofs.table.Table.part.Goals as goal

-- the arena has as many literals as the clauses
pub part-requires-clause-within : goal.part-requires-clause-within
part-requires-clause-within c =
    let inside = c.self.inside in
    let parts = sym (lits_of-rows inside.literals.items (reverse inside.slots.items)) ∙ ap lits_of c.self.view_is in
    let size = arena_size inside.literals.items (ends_of (reverse inside.slots.items)) (lits_of c.args.self.now) c.self.invariant.arena parts in
    omega (arith, size, c.requires.within, ap length c.deref.ensures.value)

-- and the same, in the same order
pub returns : goal.returns
returns c =
    let inside = c.self.inside in
    let parts = sym (lits_of-rows inside.literals.items (reverse inside.slots.items)) ∙ ap lits_of c.self.view_is in
    c.part.ensures
    ∙ (ap (λ literals. slice_range literals c.args.from c.args.to) (c.deref.ensures.value ∙ sym (laid_arena inside.literals.items (ends_of (reverse inside.slots.items)) c.self.invariant.arena))
    ∙ ap (λ ps. slice_range (laid ps) c.args.from c.args.to) parts)
