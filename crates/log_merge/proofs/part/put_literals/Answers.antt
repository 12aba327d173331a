use Rattle.std.proofs.Common.{◌∷◌, arith}
use Rattle.lit_base.specs.Literal.{literal_text}
use Rattle.log_merge.proofs.Gathered.{Gathers-more, Gathers-stopped_at}
use Rattle.log_merge.proofs.part.put_literals.Goals as goal

-- one more literal is gathered
pub loop-lit-preserved : goal.loop-lit-preserved
loop-lit-preserved g c =
    Gathers-more (λ l. 32 ∷ literal_text l) c.args.lits.now c.loop-lit.lit-index c.lit-item.result (omega arith) c.lit-item.is c.loop-lit.invariant c.in_ok-put_literal.ensures

-- the gathering stopped at a literal
pub returns-in_err-put_literal : goal.returns-in_err-put_literal
returns-in_err-put_literal g c =
    Gathers-stopped_at (λ l. 32 ∷ literal_text l) c.args.lits.now c.loop-lit.lit-index c.lit-item.result _ c.from_residual.result (omega arith) c.lit-item.is
    c.from_residual.ensures.1 c.loop-lit.invariant c.in_err-put_literal.ensures
