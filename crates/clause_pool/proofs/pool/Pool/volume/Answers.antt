use Rattle.std.proofs.Common.{◌++◌, ap, sym, ◌∙◌, subst}
use Rattle.lit_base.specs.Held.{volume_of}
use Rattle.clause_pool.specs.Pooled.{originals_of}
use Rattle.clause_pool.specs.Rising.{IsOrdered}
use Rattle.clause_pool.proofs.Order.{ordered-held_of}
use Rattle.clause_pool.proofs.Volume.{volume_of-held_of, volume_of-append}
use Rattle.clause_pool.proofs.pool.Pool.volume.Goals as goal

-- originals count nothing
pub returns-clause-value : goal.returns-clause-value
returns-clause-value c =
    let inside = c.self.inside in
    c.volume.ensures ∙ (sym (volume_of-append inside.table inside.originals) ∙ (sym (volume_of-held_of (inside.table ++ originals_of inside.originals)) ∙ ap (λ v. volume_of v.held) c.self.view_is))

-- the clauses stand in order
pub returns-clause-ordered : goal.returns-clause-ordered
returns-clause-ordered c = subst IsOrdered (ap (λ v. v.held) c.self.view_is) (ordered-held_of (c.self.inside.table ++ originals_of c.self.inside.originals) c.self.invariant.apart)
