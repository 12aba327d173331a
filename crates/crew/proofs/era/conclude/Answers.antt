use Rattle.std.proofs.Common.{true, false, ◌∙◌, ap, arith}
use Rattle.std.proofs.lemmas.Bool.{both_ways}
use Rattle.crew.specs.Era.{is_over, largest_volume}
use Rattle.crew.specs.Run.{mails_at}
use Rattle.crew.proofs.LogSize.{volumes_fit}
use Rattle.crew.proofs.TraceRows.{posts_fit}
use Rattle.crew.proofs.Turning.{mails_told, over_told, trace_told, logged_next, era_below, ended_with, not_ended}
use Rattle.crew.proofs.era.conclude.Goals as goal

pub overflow_add-past : goal.overflow_add-past
overflow_add-past g c = omega (arith, era_below c.args.formula.now c.args.settings.now c.args.past c.requires.era.range c.requires.era.has, c.requires.era.range.few_limit)

-- the rows fit
pub add_rows-requires-clause-fits : goal.add_rows-requires-clause-fits
add_rows-requires-clause-fits g c =
    let told = mails_told c.args.formula.now c.args.settings.now c.args.past c.as_slice-3.result.now (c.as_slice-3.ensures.value ∙ c.requires.sheets) in
    omega (arith, c.largest_volume-largest.ensures, ap largest_volume told, volumes_fit c.args.formula.now c.args.settings.now c.args.past c.requires.era.range c.requires.era.has)

pub add_rows-requires-clause-few : goal.add_rows-requires-clause-few
add_rows-requires-clause-few g c =
    posts_fit c.args.formula.now c.args.settings.now c.args.past c.as_slice-4.result.now c.requires.era.range c.requires.era.has (c.as_slice-4.ensures.value ∙ c.requires.sheets)

-- the run is over, as the sheets tell
pub returns-then-over-clause-outcome : goal.returns-then-over-clause-outcome
returns-then-over-clause-outcome g c =
    let cnf = c.args.formula.now in
    let settings = c.args.settings.now in
    let past = c.args.past in
    let over = over_told cnf settings past c.as_slice-2.result.now c.is_over-over.result true (c.as_slice-2.ensures.value ∙ c.requires.sheets) c.is_over-over.ensures c.if-over.true in
    let trace = trace_told cnf settings c.args.log past c.log_era.new.logged c.add_rows.new.trace c.as_slice-4.result.now c.in_ok-log_era.ensures.logged
    (c.as_slice-4.ensures.value ∙ c.requires.sheets) c.in_ok-add_rows.ensures in
    ended_with cnf settings c.args.log past c.log_era.new.logged c.replace-trace.result c.replace-sheets.result.items c.outcome_from.result over c.in_ok-log_era.ensures.logged
    (c.replace-trace.ensures.value ∙ trace) (ap (λ v. v.items) c.replace-sheets.ensures.value ∙ c.requires.sheets) c.outcome_from.ensures

pub returns-then-over-clause-sheets : goal.returns-then-over-clause-sheets
returns-then-over-clause-sheets g c on =
    absurd (both_ways (is_over (mails_at c.args.formula.now c.args.settings.now c.args.past)) on
    (over_told c.args.formula.now c.args.settings.now c.args.past c.as_slice-2.result.now c.is_over-over.result true (c.as_slice-2.ensures.value ∙ c.requires.sheets) c.is_over-over.ensures c.if-over.true))

pub returns-then-over-clause-logged : goal.returns-then-over-clause-logged
returns-then-over-clause-logged g c on =
    absurd (both_ways (is_over (mails_at c.args.formula.now c.args.settings.now c.args.past)) on
    (over_told c.args.formula.now c.args.settings.now c.args.past c.as_slice-2.result.now c.is_over-over.result true (c.as_slice-2.ensures.value ∙ c.requires.sheets) c.is_over-over.ensures c.if-over.true))

-- or it goes on
pub returns-clause-outcome : goal.returns-clause-outcome
returns-clause-outcome g c =
    not_ended c.args.formula.now c.args.settings.now c.args.past
    (over_told c.args.formula.now c.args.settings.now c.args.past c.as_slice-2.result.now c.is_over-over.result false (c.as_slice-2.ensures.value ∙ c.requires.sheets) c.is_over-over.ensures c.if-over.false)

pub returns-clause-logged : goal.returns-clause-logged
returns-clause-logged g c on =
    logged_next c.args.formula.now c.args.settings.now c.args.log c.args.past c.log_era.new.logged c.add_rows.new.trace on c.in_ok-log_era.ensures.logged
    (trace_told c.args.formula.now c.args.settings.now c.args.log c.args.past c.log_era.new.logged c.add_rows.new.trace c.as_slice-4.result.now c.in_ok-log_era.ensures.logged
    (c.as_slice-4.ensures.value ∙ c.requires.sheets) c.in_ok-add_rows.ensures)
