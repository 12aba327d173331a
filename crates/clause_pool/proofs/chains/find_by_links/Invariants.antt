use Rattle.std.proofs.Common.{length}
use Rattle.clause_pool.proofs.Following.{IsSought}
use Rattle.clause_pool.proofs.chains.find_by_links.Given as goal

-- the name is to be found from the link on
abbrev pub invariant-loop-link : goal.invariant-loop-link
invariant-loop-link l = IsSought (length l.heads) l.slots l.name l.link

-- each slot leads to an older one
abbrev pub decreases-loop-link : goal.decreases-loop-link
decreases-loop-link l = l.link
