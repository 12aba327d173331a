use Rattle.std.proofs.Common.{ap, sym, ◌∙◌}
use Rattle.std.proofs.lemmas.Bool.{both_ways}
use Rattle.crew.specs.Era.{is_over, largest_volume}
use Rattle.crew.specs.Run.{mails_at}
use Rattle.crew.proofs.Turning.{mails_told, over_with, on_with, no_outcome, not_ended}
use Rattle.crew.proofs.era.end_era.Goals as goal

-- the run is over
pub returns-in-Some-clause-outcome : goal.returns-in-Some-clause-outcome
returns-in-Some-clause-outcome g c = sym c.in-Some.is ∙ c.in_ok-ended.ensures.outcome

pub returns-in-Some-clause-next : goal.returns-in-Some-clause-next
returns-in-Some-clause-next g c on =
    absurd (both_ways (is_over (mails_at c.args.formula.now c.args.settings.now c.args.past)) on
    (over_with c.args.formula.now c.args.settings.now c.args.past c.in_ok-ended.ended c.in-Some.outcome c.in_ok-ended.ensures.outcome c.in-Some.is).0)

-- or it goes on
pub import_all-requires-clause-goes_on : goal.import_all-requires-clause-goes_on
import_all-requires-clause-goes_on g c =
    on_with c.args.formula.now c.args.settings.now c.args.past c.in_ok-ended.ended c.in_ok-ended.ensures.outcome (no_outcome c.in_ok-ended.ended c.in_default.not-Some)

pub import_all-requires-clause-sheets : goal.import_all-requires-clause-sheets
import_all-requires-clause-sheets g c =
    c.in_ok-ended.ensures.sheets (on_with c.args.formula.now c.args.settings.now c.args.past c.in_ok-ended.ended c.in_ok-ended.ensures.outcome (no_outcome c.in_ok-ended.ended c.in_default.not-Some))

pub import_all-requires-clause-largest : goal.import_all-requires-clause-largest
import_all-requires-clause-largest g c =
    let on = on_with c.args.formula.now c.args.settings.now c.args.past c.in_ok-ended.ended c.in_ok-ended.ensures.outcome (no_outcome c.in_ok-ended.ended c.in_default.not-Some) in
    c.largest_volume-largest.ensures
    ∙ ap largest_volume (mails_told c.args.formula.now c.args.settings.now c.args.past c.as_slice.result.now (c.as_slice.ensures.value ∙ c.in_ok-ended.ensures.sheets on))

pub returns-clause-outcome : goal.returns-clause-outcome
returns-clause-outcome g c =
    not_ended c.args.formula.now c.args.settings.now c.args.past
    (on_with c.args.formula.now c.args.settings.now c.args.past c.in_ok-ended.ended c.in_ok-ended.ensures.outcome (no_outcome c.in_ok-ended.ended c.in_default.not-Some))
