use Rattle.std.proofs.Common.{◌-◌, ◌+◌, arith}
use Rattle.solo_core.specs.Stretch.{search_to_quota}
use Rattle.solo_core.proofs.Stretching.{searched_quiet, stretch_leaves, stretch_goes_on}
use Rattle.solo_core.proofs.search.Search.search_to_quota.Goals as goal

-- the search left nothing unit or falsified at a lower level, unless it refuted
pub after_search-requires-clause-quiet : goal.after_search-requires-clause-quiet
after_search-requires-clause-quiet c other =
    searched_quiet c.loop.self c.search_to_conflict.new.self c.in_ok-end.end c.loop.invariant.ready c.in_ok-end.ensures.state c.in_ok-end.ensures.end other

-- the search ends the stretch
pub returns-in-Some : goal.returns-in-Some
returns-in-Some c =
    let quota = c.args.quota in
    let done = stretch_leaves c.args.self.now.frame (search_to_quota quota c.args.self.now.frame c.args.self.now.state) (quota - c.loop.counter) (quota - (c.loop.counter + 1)) c.loop.self
    c.search_to_conflict.new.self c.after_search.new.self c.in_ok-end.end c.in-Some.ended (omega arith) c.loop.invariant c.in_ok-end.ensures.state c.in_ok-end.ensures.end c.in-Some.ensures.follows in
    record { state = done.at; end = done.end; joined = c.in-Some.ensures.joined }

-- another search follows
pub loop-preserved : goal.loop-preserved
loop-preserved c =
    let quota = c.args.quota in
    stretch_goes_on c.args.self.now.frame (search_to_quota quota c.args.self.now.frame c.args.self.now.state) (quota - c.loop.counter) (quota - (c.loop.counter + 1)) c.loop.self
    c.search_to_conflict.new.self c.after_search.new.self c.in_ok-end.end (omega arith) c.loop.invariant c.in_ok-end.ensures.state c.in_ok-end.ensures.end c.in_default.ensures.follows
    c.in_default.ensures.joined
