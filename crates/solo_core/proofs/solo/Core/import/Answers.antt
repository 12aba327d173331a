use Rattle.solo_core.proofs.NextOpen.{may_import, imports_free, import_opens}
use Rattle.solo_core.proofs.solo.Core.import.Goals as goal

-- what the mails post is new
pub import-requires-clause-new : goal.import-requires-clause-new
import-requires-clause-new c =
    let core = c.self.inside in
    imports_free core.search c.args.mails.now
    (may_import core.search core.ended core.is_handed core.is_broken c.args.self.now c.args.mails.now c.self.view_is c.if-self.false (c.self.invariant c.if-self.false) c.requires.goes_on c.requires.mails)

-- the search is at the start of the next period
pub invariant_of-self-2 : goal.invariant_of-self-2
invariant_of-self-2 c whole =
    let core = c.self.inside in
    import_opens core.search c.import.new.self c.args.mails.now
    (may_import core.search core.ended core.is_handed core.is_broken c.args.self.now c.args.mails.now c.self.view_is c.if-self.false (c.self.invariant c.if-self.false) c.requires.goes_on c.requires.mails)
    c.in_ok-import.ensures.state c.in_ok-import.ensures.joined
