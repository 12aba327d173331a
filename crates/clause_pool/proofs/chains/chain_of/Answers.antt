use Rattle.std.proofs.Common.{ap, ◌∙◌, ◌*◌, ◌/◌, ◌^◌, arith}
use Rattle.clause_pool.specs.Links.{hash_of, chain_of}
use Rattle.clause_pool.proofs.chains.chain_of.Goals as goal

-- the number is computed as it is defined
pub returns-clause-value : goal.returns-clause-value
unfolding hash_of chain_of
returns-clause-value c = ap (λ hash. hash * c.args.count / 2 ^ 64) (c.from-3.ensures ∙ grind arith)
