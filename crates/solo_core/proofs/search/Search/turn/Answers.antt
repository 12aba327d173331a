use Rattle.std.proofs.Common.{sym, ◌∙◌}
use Rattle.solo_core.proofs.Searched.{propagated_ready, conflict_stands, conflict_turned-on_ok}
use Rattle.solo_core.proofs.search.Search.turn.Goals as goal

-- the search is ready still, and the conflict stands
pub teach-requires-clause-ready : goal.teach-requires-clause-ready
teach-requires-clause-ready c = propagated_ready c.args.self.now c.propagate.new.self c.requires c.propagate.ensures.state c.propagate.ensures.joined

pub teach-requires-clause-conflict : goal.teach-requires-clause-conflict
teach-requires-clause-conflict c = conflict_stands c.args.self.now c.propagate.new.self c.in-Conflict.conflict c.requires c.propagate.ensures.state (sym c.in-Conflict.is ∙ c.propagate.ensures.found)

-- what the conflict teaches is what the turn comes to
pub returns-in-Conflict-clause-state : goal.returns-in-Conflict-clause-state
returns-in-Conflict-clause-state c =
    conflict_turned-on_ok c.teach.result c.args.self.now c.propagate.new.self c.teach.new.self c.in-Conflict.conflict c.propagate.ensures.state
    (sym c.in-Conflict.is ∙ c.propagate.ensures.found) c.teach.ensures.state
