use Rattle.std.specs.List.{IsDistinct}
use Rattle.clause_pool.proofs.tests.drop_one.Goals as goal

-- one name is distinct
pub drop_names-requires-clause-distinct : goal.drop_names-requires-clause-distinct
unfolding IsDistinct
drop_names-requires-clause-distinct g c = (tt, tt)
