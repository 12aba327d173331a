use Rattle.std.proofs.Common.{sym, subst}
use Rattle.solo_core.specs.Period.{clauses_posted}
use Rattle.solo_core.specs.Searching.{IsJoined}
use Rattle.solo_core.specs.contracts.search.Search.{the_view}
use Rattle.solo_core.proofs.HeldPosts.{imported_joined}
use Rattle.solo_core.proofs.search.Search.import.Goals as goal

-- the parts fit one another
pub returns-clause-joined : goal.returns-clause-joined
returns-clause-joined c =
    imported_joined (the_view c.self.inside) (clauses_posted c.args.mails.now) c.hold_mails.new.pool c.clear.new.self c.hold_mails.new.rounds (subst IsJoined (sym c.self.view_is) c.requires.joined)
    c.in_ok-hold_mails.ensures.held c.clear.ensures c.in_ok-hold_mails.ensures.variables c.in_ok-hold_mails.ensures.attached c.in_ok-hold_mails.ensures.placed
