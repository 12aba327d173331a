use Rattle.std.proofs.Common.{◌≡◌, ap, sym, ◌∙◌, subst}
use Rattle.crew.specs.Era.{is_over, next_member}
use Rattle.crew.specs.Run.{mails_at}
use Rattle.crew.specs.Turns.{AtMember, begun}
use Rattle.crew.proofs.OnBoard.{next_begun, went_well}
use Rattle.crew.proofs.party.decide.Goals as goal

-- the core is brought to the next era
pub returns-else-is_err-clause-step : goal.returns-else-is_err-clause-step
returns-else-is_err-clause-step c =
    let cnf = c.args.formula.now in
    let settings = c.args.settings.now in
    let past = c.args.past in
    let next = went_well c.import_one.result (sym c.is_err.ensures.value ∙ c.if-is_err.false) c.import_one.ensures.next in
    let place = c.number-place.ensures in (
      sym (c.is_over.ensures ∙ ap is_over (c.as_slice.ensures.value ∙ c.requires.mails)) ∙ c.if-is_over.false,
      λ whole. next_begun cnf settings past _ c.import_one.new.searcher c.requires.core
          (subst (λ i. AtMember cnf settings past i (λ m. c.import_one.new.searcher ≡ begun (next_member settings.period (mails_at cnf settings past) m))) place next),
    )
