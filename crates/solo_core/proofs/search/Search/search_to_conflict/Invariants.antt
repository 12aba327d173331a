use Rattle.std.proofs.Common.{◌-◌}
use Rattle.solo_core.specs.Stretch.{search_to_conflict}
use Rattle.solo_core.proofs.Searched.{IsSearching}
use Rattle.solo_core.proofs.search.Search.search_to_conflict.Given as goal

-- the turns to come end where the search ends
abbrev pub invariant-loop : goal.invariant-loop
invariant-loop l = IsSearching l.fn.self.frame (search_to_conflict l.most l.fn.self.frame l.fn.self.state) (l.most - l.counter) l.self
