use Rattle.std.proofs.Common.{◌-◌, ap, sym, ◌∙◌, arith}
use Rattle.std.specs.Prelude.{Some, slice_range}
use Rattle.lit_base.specs.Named.{lits_at}
use Rattle.lit_base.specs.Held.{clauses_of}
use Rattle.clause_pool.specs.Spans.{span_of, lits_of, laid}
use Rattle.clause_pool.proofs.Laying.{length-laid}
use Rattle.clause_pool.proofs.Spanning.{read_front, read_back, over_front}
use Rattle.clause_pool.proofs.pool.Pool.lits_in.Goals as goal

-- the span is that of a clause, so it begins before it ends
pub part-requires-clause-order : goal.part-requires-clause-order
part-requires-clause-order g c =
    (read_front c.self.inside.table c.self.inside.originals c.requires.0 c.args.span c.self.invariant.apart (ap (λ v. span_of v.added c.requires.0) c.self.view_is ∙ c.requires.1)
    (omega (arith, c.if-span-base.true, c.width-base.ensures.value))).order

-- a clause that ends among the originals' literals stands there
pub returns-then-span-base-clause-lits : goal.returns-then-span-base-clause-lits
returns-then-span-base-clause-lits g c name is =
    ap (λ v. lits_at (clauses_of v.held) name) (sym c.self.view_is)
    ∙ ((read_front c.self.inside.table c.self.inside.originals name c.args.span c.self.invariant.apart (ap (λ v. span_of v.added name) c.self.view_is ∙ is)
    (omega (arith, c.if-span-base.true, c.width-base.ensures.value))).is
    ∙ ap (λ lits. Some lits) (sym c.part.ensures))

-- any other stands behind them
pub overflow_sub-span : goal.overflow_sub-span
overflow_sub-span g c =
    let begin = over_front c.self.inside.table c.self.inside.originals c.requires.0 c.args.span (ap (λ v. span_of v.added c.requires.0) c.self.view_is ∙ c.requires.1)
    (omega (arith, c.if-span-base.false, c.width-base.ensures.value)) in
    omega (arith, begin, c.width-base.ensures.value)

pub part-requires-2-clause-order : goal.part-requires-2-clause-order
part-requires-2-clause-order g c =
    let read = read_back c.self.inside.table c.self.inside.originals c.requires.0 c.args.span c.self.invariant.apart (ap (λ v. span_of v.added c.requires.0) c.self.view_is ∙ c.requires.1)
    (omega (arith, c.if-span-base.false, c.width-base.ensures.value)) in
    omega (arith, read.order, c.width-base.ensures.value)

pub part-requires-2-clause-within : goal.part-requires-2-clause-within
part-requires-2-clause-within g c =
    let read = read_back c.self.inside.table c.self.inside.originals c.requires.0 c.args.span c.self.invariant.apart (ap (λ v. span_of v.added c.requires.0) c.self.view_is ∙ c.requires.1)
    (omega (arith, c.if-span-base.false, c.width-base.ensures.value)) in
    omega (arith, read.within, length-laid (lits_of c.self.inside.table), c.width-base.ensures.value)

-- in the arena of the table
pub returns-clause-lits : goal.returns-clause-lits
returns-clause-lits g c name is =
    ap (λ v. lits_at (clauses_of v.held) name) (sym c.self.view_is)
    ∙ ((read_back c.self.inside.table c.self.inside.originals name c.args.span c.self.invariant.apart (ap (λ v. span_of v.added name) c.self.view_is ∙ is)
    (omega (arith, c.if-span-base.false, c.width-base.ensures.value))).is
    ∙ (ap (λ base. Some (slice_range (laid (lits_of c.self.inside.table)) (c.args.span.start - base) (c.args.span.end - base))) (sym c.width-base.ensures.value) ∙ ap (λ lits. Some lits) (sym c.part-2.ensures)))
