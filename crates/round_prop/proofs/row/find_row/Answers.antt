use Rattle.std.proofs.Common.{sym, ◌∙◌, arith}
use Rattle.round_prop.proofs.Spans.{span_rising}
use Rattle.round_prop.proofs.row.find_row.Goals as goal

-- a place begins where it ends or before
pub overflow_cast-result : goal.overflow_cast-result
overflow_cast-result c =
    let rising = span_rising c.args.pool.now.added c.args.name c.in-Some.span (sym c.span.ensures.value ∙ c.in-Some.is) in
    omega (arith, rising, c.if-span.false)
