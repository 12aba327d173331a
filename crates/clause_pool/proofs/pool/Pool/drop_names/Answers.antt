use Rattle.std.proofs.Common.{◌++◌, not, ap, sym, ◌∙◌, subst}
use Rattle.lit_base.specs.Held.{clauses_of, is_among, without_names, clauses_without}
use Rattle.clause_pool.specs.Pooled.{held_of, originals_of, IsPool}
use Rattle.clause_pool.proofs.Fronts.{apart_left}
use Rattle.clause_pool.proofs.Pooling.{without_rows, clauses_of-without, held_of-filter, pool_dropped}
use Rattle.clause_pool.proofs.pool.Pool.drop_names.Goals as goal

-- no name stands twice in the table
pub drop_names-requires : goal.drop_names-requires
drop_names-requires c = apart_left c.self.inside.table (originals_of c.self.inside.originals) c.self.invariant.apart

-- originals are kept
pub invariant_of-self : goal.invariant_of-self
invariant_of-self c =
    let rows = c.self.inside.table ++ originals_of c.self.inside.originals in
    let table = ap (λ left. left ++ originals_of c.self.inside.originals) c.drop_names.ensures ∙ without_rows c.args.names.now c.self.inside.table c.self.inside.originals c.requires.lemmas in
    subst IsPool (sym table) (pool_dropped c.args.names.now rows c.self.invariant)

pub returns-clause-held : goal.returns-clause-held
returns-clause-held c =
    let rows = c.self.inside.table ++ originals_of c.self.inside.originals in
    let table = ap (λ left. left ++ originals_of c.self.inside.originals) c.drop_names.ensures ∙ without_rows c.args.names.now c.self.inside.table c.self.inside.originals c.requires.lemmas in
    ap held_of table ∙ (held_of-filter (λ d. not (is_among c.args.names.now d.name)) rows c.self.invariant.apart ∙ ap (λ v. without_names c.args.names.now v.held) c.self.view_is)

pub returns-clause-added : goal.returns-clause-added
returns-clause-added c =
    let rows = c.self.inside.table ++ originals_of c.self.inside.originals in
    let table = ap (λ left. left ++ originals_of c.self.inside.originals) c.drop_names.ensures ∙ without_rows c.args.names.now c.self.inside.table c.self.inside.originals c.requires.lemmas in
    ap clauses_of table ∙ (clauses_of-without c.args.names.now rows ∙ ap (λ v. clauses_without c.args.names.now v.added) c.self.view_is)
