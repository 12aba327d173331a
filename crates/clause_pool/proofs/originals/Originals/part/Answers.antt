use Rattle.std.proofs.Common.{length, reverse, ap, sym, ◌∙◌, arith}
use Rattle.std.specs.Prelude.{slice_range}
use Rattle.clause_pool.specs.Spans.{laid}
use Rattle.clause_pool.proofs.Parts.{arena_size}
use Rattle.clause_pool.proofs.Laying.{laid_arena}
use Rattle.clause_pool.proofs.originals.Originals.part.Goals as goal

-- the arena has as many literals as the clauses
pub part-requires-clause-within : goal.part-requires-clause-within
part-requires-clause-within c =
    let size = arena_size _ _ _ c.self.invariant c.self.view_is in
    omega (arith, size, c.requires.within, ap length c.deref.ensures.value)

-- and the same, in the same order
pub returns : goal.returns
returns c =
    let inside = c.self.inside in
    c.part.ensures
    ∙ (ap (λ literals. slice_range literals c.args.from c.args.to) (c.deref.ensures.value ∙ sym (laid_arena inside.literals.items (reverse inside.ends.items) c.self.invariant))
    ∙ ap (λ parts. slice_range (laid parts) c.args.from c.args.to) c.self.view_is)
