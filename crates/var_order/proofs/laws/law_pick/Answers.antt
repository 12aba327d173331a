use Rattle.var_order.proofs.Best.{pick_is_best, best_is_pick, none_where_full}
use Rattle.var_order.proofs.laws.law_pick.Goals as goal

pub returns-clause-best : goal.returns-clause-best
returns-clause-best c = pick_is_best

pub returns-clause-picked : goal.returns-clause-picked
returns-clause-picked c = best_is_pick

pub returns-clause-none : goal.returns-clause-none
returns-clause-none c = none_where_full
