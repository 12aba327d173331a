use Rattle.std.proofs.Common.{◌++◌, ap, sym, ◌∙◌, subst}
use Rattle.lit_base.specs.Held.{clauses_of}
use Rattle.clause_pool.specs.Pooled.{held_of, originals_of, IsPool}
use Rattle.clause_pool.specs.Uses.{cleared, without_uses}
use Rattle.clause_pool.proofs.Pooling.{cleared_name, cleared_rows, clauses_of-cleared, held_of-map, pool_changed}
use Rattle.clause_pool.proofs.pool.Pool.clear_uses.Goals as goal

-- originals have no uses to clear
pub invariant_of-self : goal.invariant_of-self
invariant_of-self c =
    let rows = c.self.inside.table ++ originals_of c.self.inside.originals in
    let table = ap (λ counted. counted ++ originals_of c.self.inside.originals) c.clear_uses.ensures ∙ cleared_rows c.self.inside.table c.self.inside.originals in
    subst IsPool (sym table) (pool_changed without_uses cleared_name clauses_of-cleared rows c.self.invariant)

pub returns-clause-held : goal.returns-clause-held
returns-clause-held c =
    let rows = c.self.inside.table ++ originals_of c.self.inside.originals in
    let table = ap (λ counted. counted ++ originals_of c.self.inside.originals) c.clear_uses.ensures ∙ cleared_rows c.self.inside.table c.self.inside.originals in
    ap held_of table ∙ (held_of-map without_uses cleared_name rows ∙ ap (λ v. cleared v.held) c.self.view_is)

pub returns-clause-added : goal.returns-clause-added
returns-clause-added c =
    let rows = c.self.inside.table ++ originals_of c.self.inside.originals in
    let table = ap (λ counted. counted ++ originals_of c.self.inside.originals) c.clear_uses.ensures ∙ cleared_rows c.self.inside.table c.self.inside.originals in
    ap clauses_of table ∙ (clauses_of-cleared rows ∙ ap (λ v. v.added) c.self.view_is)
