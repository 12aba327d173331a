use Rattle.std.proofs.Common.{length, ap, ◌∙◌, arith}
use Rattle.crew.specs.declared.logged.Logged.{Logged}
use Rattle.crew.specs.Log.{joined, standing_parts}
use Rattle.crew.proofs.EraLog.{counts_of}
use Rattle.crew.proofs.LogSteps.{parts_told, on_ok, era_small, period_fits, period_cores, period_numbers, logged_wanted, logged_unwanted, part_has, part_written}
use Rattle.crew.proofs.logged.log_era.Goals as goal

pub count_standing-requires : goal.count_standing-requires
count_standing-requires g c =
    let told = parts_told c.args.formula.now c.args.settings.now c.args.past c.args.sheets.now c.winner_in-winner.result c.requires.sheets c.winner_in-winner.ensures in
    omega (arith, ap (λ parts. length (joined parts)) told, era_small c.args.formula.now c.args.settings.now c.args.past c.requires.era.range c.requires.era.has)

pub overflow_add-logged : goal.overflow_add-logged
overflow_add-logged g c =
    let told = parts_told c.args.formula.now c.args.settings.now c.args.past c.args.sheets.now c.winner_in-winner.result c.requires.sheets c.winner_in-winner.ensures in
    omega (
      arith,
      ap (λ parts. length (joined parts)) told,
      ap (λ (l : Logged). l.lemmas) c.requires.logged,
      c.count_standing.ensures,
      era_small c.args.formula.now c.args.settings.now c.args.past c.requires.era.range c.requires.era.has,
    )

pub returns-then-not-log-clause-logged : goal.returns-then-not-log-clause-logged
returns-then-not-log-clause-logged g c =
    let told = parts_told c.args.formula.now c.args.settings.now c.args.past c.args.sheets.now c.winner_in-winner.result c.requires.sheets c.winner_in-winner.ensures in
    logged_unwanted c.args.formula.now c.args.settings.now c.args.past c.count_standing.result c.args.log c.args.logged.now (standing_parts c.winner_in-winner.result c.args.sheets.now)
    c.if-not-log.true c.requires.logged c.count_standing.ensures told

pub end_period-requires-clause-cores : goal.end_period-requires-clause-cores
end_period-requires-clause-cores g c =
    let told = parts_told c.args.formula.now c.args.settings.now c.args.past c.args.sheets.now c.winner_in-winner.result c.requires.sheets c.winner_in-winner.ensures in
    period_cores c.args.formula.now c.args.settings.now c.args.past c.args.log c.args.logged.now c.as_slice.result.now c.requires.logged (c.as_slice.ensures.value ∙ c.in_ok-counts.ensures ∙ ap counts_of told)

pub end_period-requires-clause-fits : goal.end_period-requires-clause-fits
end_period-requires-clause-fits g c =
    let told = parts_told c.args.formula.now c.args.settings.now c.args.past c.args.sheets.now c.winner_in-winner.result c.requires.sheets c.winner_in-winner.ensures in
    period_fits c.args.formula.now c.args.settings.now c.args.past c.args.log c.args.logged.now c.as_slice.result.now c.requires.era c.if-not-log.false c.requires.logged
    (c.as_slice.ensures.value ∙ c.in_ok-counts.ensures ∙ ap counts_of told)

pub write_parts-requires : goal.write_parts-requires
write_parts-requires g c =
    let told = parts_told c.args.formula.now c.args.settings.now c.args.past c.args.sheets.now c.winner_in-winner.result c.requires.sheets c.winner_in-winner.ensures in
    part_has c.args.formula.now c.args.settings.now c.args.past (standing_parts c.winner_in-winner.result c.args.sheets.now) c.end_period.new.self c.requires.era told
    (period_numbers c.args.formula.now c.args.settings.now c.args.past c.args.log c.args.logged.now c.as_slice.result.now c.end_period.new.self c.if-not-log.false c.requires.logged
    (c.as_slice.ensures.value ∙ c.in_ok-counts.ensures ∙ ap counts_of told) c.in_ok-end_period.ensures.ok)

pub returns-clause-logged : goal.returns-clause-logged
returns-clause-logged g c =
    let told = parts_told c.args.formula.now c.args.settings.now c.args.past c.args.sheets.now c.winner_in-winner.result c.requires.sheets c.winner_in-winner.ensures in
    on_ok c.write_parts.result
    (logged_wanted c.args.formula.now c.args.settings.now c.args.past c.count_standing.result c.args.log c.args.logged.now (standing_parts c.winner_in-winner.result c.args.sheets.now) c.end_period.new.self
    c.if-not-log.false c.requires.logged c.count_standing.ensures told
    (period_numbers c.args.formula.now c.args.settings.now c.args.past c.args.log c.args.logged.now c.as_slice.result.now c.end_period.new.self c.if-not-log.false c.requires.logged
    (c.as_slice.ensures.value ∙ c.in_ok-counts.ensures ∙ ap counts_of told) c.in_ok-end_period.ensures.ok))

pub returns-clause-writes : goal.returns-clause-writes
returns-clause-writes g c =
    let told = parts_told c.args.formula.now c.args.settings.now c.args.past c.args.sheets.now c.winner_in-winner.result c.requires.sheets c.winner_in-winner.ensures in
    part_written c.args.formula.now c.args.settings.now c.args.past c.args.log (standing_parts c.winner_in-winner.result c.args.sheets.now) c.end_period.new.self (g.O.Outputs.told c.args.outputs.now)
    (g.O.Outputs.told c.write_parts.new.outputs) c.write_parts.result c.if-not-log.false told
    (period_numbers c.args.formula.now c.args.settings.now c.args.past c.args.log c.args.logged.now c.as_slice.result.now c.end_period.new.self c.if-not-log.false c.requires.logged
    (c.as_slice.ensures.value ∙ c.in_ok-counts.ensures ∙ ap counts_of told) c.in_ok-end_period.ensures.ok) c.write_parts.ensures
