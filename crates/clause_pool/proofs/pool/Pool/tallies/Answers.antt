use Rattle.std.proofs.Common.{◌≡◌, ◌++◌, reverse, ap, subst}
use Rattle.std.specs.List.Sorted.{IsPermutation}
use Rattle.std.proofs.lemmas.Result.{IfOk-weaker}
use Rattle.clause_pool.specs.Pooled.{originals_of}
use Rattle.clause_pool.specs.Tallies.{tallies_but}
use Rattle.clause_pool.specs.Rising.{IsOrdered}
use Rattle.clause_pool.proofs.Fronts.{apart_left}
use Rattle.clause_pool.proofs.Order.{ordered-held_of}
use Rattle.clause_pool.proofs.Tallying.{tallies_in_order}
use Rattle.clause_pool.proofs.pool.Pool.tallies.Goals as goal

-- no name stands twice in the table
pub tallies-requires : goal.tallies-requires
tallies-requires c = apart_left c.self.inside.table (originals_of c.self.inside.originals) c.self.invariant.apart

-- the clauses stand in order
pub returns-clause-ordered : goal.returns-clause-ordered
returns-clause-ordered c = subst IsOrdered (ap (λ v. v.held) c.self.view_is) (ordered-held_of (c.self.inside.table ++ originals_of c.self.inside.originals) c.self.invariant.apart)

-- in order they are the same, but for their places
pub returns-clause-tallies : goal.returns-clause-tallies
returns-clause-tallies c =
    IfOk-weaker c.tallies.result (λ tallies. reverse tallies.items ≡ tallies_but c.args.but.now c.self.inside.table)
    (λ tallies. IsPermutation (tallies_but c.args.but.now c.args.self.now.held) tallies.items)
    (λ tallies told. tallies_in_order c.args.but.now c.self.inside.table c.self.inside.originals c.args.self.now.held tallies.items (ap (λ v. v.held) c.self.view_is) told) c.tallies.ensures
