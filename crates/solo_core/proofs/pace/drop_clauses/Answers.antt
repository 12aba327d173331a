use Rattle.std.proofs.Common.{ap, ◌∙◌}
use Rattle.clause_pool.specs.Uses.{cleared}
use Rattle.solo_core.proofs.Dropped.{dropped_attached}
use Rattle.solo_core.proofs.pace.drop_clauses.Goals as goal

pub returns-clause-pool : goal.returns-clause-pool
returns-clause-pool c = c.clear_uses.ensures.held ∙ ap cleared c.drop_names.ensures.held

-- propagation goes over the clauses that are left
pub returns-clause-attached : goal.returns-clause-attached
returns-clause-attached c = λ trail attached.
    dropped_attached c.args.rounds.now c.detach.new.self c.args.pool.now.held c.clear_uses.new.self.held trail c.args.names.now (c.clear_uses.ensures.held ∙ ap cleared c.drop_names.ensures.held) c.detach.ensures.attached attached
