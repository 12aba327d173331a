use Rattle.std.proofs.Common.{◌-◌}
use Rattle.solo_core.specs.Stretch.{search_to_quota}
use Rattle.solo_core.proofs.Stretching.{IsStretching}
use Rattle.solo_core.proofs.search.Search.search_to_quota.Given as goal

-- the searches to come end where the stretch ends
abbrev pub invariant-loop : goal.invariant-loop
invariant-loop l = IsStretching l.fn.self.frame (search_to_quota l.quota l.fn.self.frame l.fn.self.state) (l.quota - l.counter) l.self
