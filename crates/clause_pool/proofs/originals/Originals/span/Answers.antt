use Rattle.std.proofs.Common.{length, ap, sym, ◌∙◌, arith}
use Rattle.clause_pool.specs.Spans.{span_at}
use Rattle.clause_pool.proofs.Parts.{inside_ends}
use Rattle.clause_pool.proofs.Laying.{span_read_at}
use Rattle.clause_pool.proofs.originals.Originals.span.Goals as goal

-- the index is that of an end
pub start_of-requires : goal.start_of-requires
start_of-requires c =
    let inside = inside_ends c.self.inside.literals.items c.self.inside.ends.items c.args.self.now c.args.index c.self.view_is c.requires in
    omega (arith, inside, ap length c.deref.ensures.value)

pub index-requires : goal.index-requires
index-requires c =
    let inside = inside_ends c.self.inside.literals.items c.self.inside.ends.items c.args.self.now c.args.index c.self.view_is c.requires in
    omega (arith, inside)

-- the part of the index stands in front of its end
pub returns : goal.returns
returns c =
    let inside = inside_ends c.self.inside.literals.items c.self.inside.ends.items c.args.self.now c.args.index c.self.view_is c.requires in
    ap (λ parts. span_at parts c.args.index) (sym c.self.view_is)
    ∙ (span_read_at c.self.inside.literals.items c.self.inside.ends.items c.deref.result.now c.args.index c.start_of.result c.index.result.now c.self.invariant inside c.deref.ensures.value c.start_of.ensures c.index.ensures).is
