use Rattle.std.proofs.Common.{◌≡◌, ℕ, ◌+◌, ◌-◌, ◌∙◌, ap, sym, subst, arith}
use Rattle.solo_core.specs.Stretch.{search_to_conflict}
use Rattle.solo_core.specs.State.{SearchState}
use Rattle.solo_core.proofs.Searched.{HasSearched, goes_on, leaves}
use Rattle.solo_core.proofs.search.Search.search_to_conflict.Goals as goal

-- a turn that comes to no decision
pub returns-in_default : goal.returns-in_default
returns-in_default c =
    let frame = c.args.self.now.frame in
    let state = c.args.self.now.state in
    let most = c.self.inside.variables + 1 in
    let variables : c.self.inside.variables ≡ frame.variables = ap (λ (s : SearchState). s.frame.variables) c.self.view_is in
    let done : HasSearched frame (search_to_conflict (frame.variables + 1) frame state) c.turn.new.self c.in_ok-end.end =
    subst (λ (v : ℕ). HasSearched frame (search_to_conflict (v + 1) frame state) c.turn.new.self c.in_ok-end.end) variables
    (leaves frame (search_to_conflict most frame state) (most - c.loop.counter) (most - (c.loop.counter + 1)) c.loop.self c.turn.new.self
    c.in_ok-end.end (omega arith) c.loop.invariant c.in_ok-end.ensures.state c.in_ok-end.ensures.end c.in_default.not-Decided) in
    record { state = done.at; end = done.end; joined = c.in_ok-end.ensures.joined }

-- a decision
pub loop-preserved : goal.loop-preserved
loop-preserved c =
    let most = c.self.inside.variables + 1 in
    goes_on c.args.self.now.frame (search_to_conflict most c.args.self.now.frame c.args.self.now.state) (most - c.loop.counter) (most - (c.loop.counter + 1)) c.loop.self c.turn.new.self
    (omega arith) c.loop.invariant c.in_ok-end.ensures.state c.in_ok-end.ensures.joined (sym c.in-Decided.is ∙ c.in_ok-end.ensures.end)
