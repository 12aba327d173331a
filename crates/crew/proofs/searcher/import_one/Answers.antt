use Rattle.std.proofs.Common.{◌+◌, ◌<◌, ◌^◌, length, ap, sym, ◌∙◌, subst, arith}
use Rattle.std.specs.List.{remove}
use Rattle.std.proofs.lemmas.List.{length-map}
use Rattle.period_rule.specs.Period.{next_period}
use Rattle.solo_core.specs.Calls.{HasNoAnswer, after_import}
use Rattle.solo_core.specs.Period.{AreMails}
use Rattle.solo_core.specs.declared.sheet.Mail.{Mail}
use Rattle.crew.specs.declared.searcher.Searcher.{Searcher}
use Rattle.crew.specs.Era.{stretched, mail_at}
use Rattle.crew.specs.Run.{members_at, mails_at}
use Rattle.crew.proofs.RunSound.{length-members}
use Rattle.crew.proofs.InTurn.{member_at, may_import, brought, own_mail}
use Rattle.crew.proofs.searcher.import_one.Goals as goal

pub remove-own-requires : goal.remove-own-requires
remove-own-requires c =
    let members = members_at c.args._formula.now c.args.settings.now c.args._past in
    let mails = ap length c.requires.mails in
    omega (arith, mails, length-map members mail_at, length-members c.args._formula.now c.args.settings.now c.args._past, c.requires.within, c.args.mails.now.ok.0)

-- the core may import what is left
pub import-requires-clause-goes_on : goal.import-requires-clause-goes_on
import-requires-clause-goes_on c whole =
    let found = member_at c.args._formula.now c.args.settings.now c.args._past c.args.i c.requires.within in
    let may = may_import c.args._formula.now c.args.settings.now c.args._past c.args.i found.0 c.requires.era c.requires.goes_on found.1 in
    subst (λ (s : Searcher). HasNoAnswer s.core.ended) (sym (c.requires.rest found.0 found.1)) may.no_answer

pub import-requires-clause-mails : goal.import-requires-clause-mails
import-requires-clause-mails c whole =
    let found = member_at c.args._formula.now c.args.settings.now c.args._past c.args.i c.requires.within in
    let may = may_import c.args._formula.now c.args.settings.now c.args._past c.args.i found.0 c.requires.era c.requires.goes_on found.1 in
    subst (λ (s : Searcher). AreMails s.core.frame.variables s.core.state.period s.core.frame.core 0 c.as_slice.result.now) (sym (c.requires.rest found.0 found.1))
    (subst (AreMails found.0.frame.variables (stretched found.0).state.period found.0.frame.core 0)
    (sym (c.as_slice.ensures.value ∙ c.remove-own.ensures.items ∙ ap (λ mails. remove mails c.args.i) c.requires.mails)) may.mails)

pub import-requires-clause-period : goal.import-requires-clause-period
import-requires-clause-period c whole =
    let found = member_at c.args._formula.now c.args.settings.now c.args._past c.args.i c.requires.within in
    let may = may_import c.args._formula.now c.args.settings.now c.args._past c.args.i found.0 c.requires.era c.requires.goes_on found.1 in
    subst (λ (s : Searcher). s.core.state.period + 1 < 2 ^ 32) (sym (c.requires.rest found.0 found.1)) may.period

-- its period is of a length
pub next_period-searcher-requires-clause-within : goal.next_period-searcher-requires-clause-within
next_period-searcher-requires-clause-within c =
    let found = member_at c.args._formula.now c.args.settings.now c.args._past c.args.i c.requires.within in
    let may = may_import c.args._formula.now c.args.settings.now c.args._past c.args.i found.0 c.requires.era c.requires.goes_on found.1 in
    let own = own_mail c.args._formula.now c.args.settings.now c.args._past c.args.i found.0 c.args.mails.now.items c.remove-own.result found.1 c.requires.mails c.remove-own.ensures.value in
    let volume = ap (λ (mail : Mail). mail.volume) own in omega (arith, volume, may.within, c.requires.largest)

pub next_period-searcher-requires-clause-fits : goal.next_period-searcher-requires-clause-fits
next_period-searcher-requires-clause-fits c =
    let found = member_at c.args._formula.now c.args.settings.now c.args._past c.args.i c.requires.within in
    let may = may_import c.args._formula.now c.args.settings.now c.args._past c.args.i found.0 c.requires.era c.requires.goes_on found.1 in omega (arith, may.fits, c.requires.largest)

-- the core is brought to the next era
pub returns-clause-next : goal.returns-clause-next
returns-clause-next c m at =
    let cnf = c.args._formula.now in
    let settings = c.args.settings.now in
    let mails = mails_at cnf settings c.args._past in
    let may = may_import cnf settings c.args._past c.args.i m c.requires.era c.requires.goes_on at in
    let own = own_mail cnf settings c.args._past c.args.i m c.args.mails.now.items c.remove-own.result at c.requires.mails c.remove-own.ensures.value in
    brought settings.period c.next_period-searcher.result mails (remove mails c.args.i) m c.args.searcher.now c.import.new.self (c.requires.rest m at) may.others
    (c.in_ok-import.ensures.state
    ∙ ap (λ ms. after_import ms c.args.searcher.now.core) (c.as_slice.ensures.value ∙ c.remove-own.ensures.items ∙ ap (λ ms. remove ms c.args.i) c.requires.mails))
    (c.next_period-searcher.ensures ∙ ap (λ (mail : Mail). next_period settings.period mail.volume c.args.largest) own
    ∙ ap (next_period settings.period (mail_at m).volume) c.requires.largest)
